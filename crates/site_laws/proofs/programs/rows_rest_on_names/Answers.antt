use Rattle.std.proofs.Common.{refl, sym, ap, ◌∙◌}
use Rattle.site_program.specs.State.{empty_under}
use Rattle.site_program.specs.Step.{step}
use Rattle.site_program.specs.History.{site_after}
use Rattle.site_laws.proofs.LogAndSite.{limited-same, site_after-limit}
use Rattle.site_laws.proofs.OtherPrograms.{lines-follow, edits-reply}
use Rattle.site_laws.proofs.programs.rows_rest_on_names.Goals as goal

pub returns-clause-rows : goal.returns-clause-rows
returns-clause-rows c = λ one other calls more limit lines same.
    sym (limited-same limit _ (site_after-limit one calls limit (empty_under limit) lines))
    ∙ sym (lines-follow one other same calls more limit (empty_under limit) (empty_under limit) lines refl)

pub returns-clause-replies : goal.returns-clause-replies
returns-clause-replies c = λ one other calls more limit lines same all.
    edits-reply one other same calls more limit (empty_under limit) (empty_under limit) lines all refl
