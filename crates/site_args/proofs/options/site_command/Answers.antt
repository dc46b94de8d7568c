use Rattle.std.proofs.Common.{◌∙◌, ap}
use Rattle.std.proofs.lemmas.Result.{IfOk-weaker}
use Rattle.site_args.specs.CommandLine.{option_rules, site_app, with_rules}
use Rattle.site_args.proofs.options.site_command.Goals as goal

pub returns : goal.returns
unfolding site_app
returns c = IfOk-weaker c.with_options.result _ _ (λ command is. is ∙ ap (λ app. with_rules app option_rules) c.bare_command.ensures) c.with_options.ensures
