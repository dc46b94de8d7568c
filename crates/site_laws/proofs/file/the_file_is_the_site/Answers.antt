use Rattle.std.proofs.Common.{None, refl, sym, ap, ◌∙◌}
use Rattle.site_program.specs.History.{rows_after, site_after}
use Rattle.site_program.specs.State.{empty_site}
use Rattle.site_program.specs.Step.{step}
use Rattle.site_laws.proofs.file.the_file_is_the_site.Goals as goal

pub returns : goal.returns
returns c engine other calls more image identity last input before after result found same run =
    c.the_log_is_the_site.ensures.served engine calls None (site_after (step engine calls) empty_site run.noted) run.state run.noted run.front refl
    run.first_served
    ∙ ap (rows_after engine calls None) (sym run.is_found)
    ∙ c.rows_rest_on_names.ensures.rows engine other calls more None found same
