use Rattle.std.proofs.Common.{◌∙◌, ap}
use Rattle.clap.specs.Words.{with_rule}
use Rattle.site_args.proofs.SiteApp.{one_more}
use Rattle.site_args.proofs.options.with_options.Goals as goal

-- the option of one more row was added
pub loop-row-preserved : goal.loop-row-preserved
loop-row-preserved c =
    one_more _ _ _ _ c.loop-row.row-index _ c.loop-row-test.true c.loop-row.invariant
    (c.in_ok-command.ensures.shape c.option_of.ensures.local ∙ ap (with_rule _) c.option_of.ensures.rule)
