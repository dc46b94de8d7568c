use Rattle.std.proofs.Common.{rules}
use Rattle.site_args.proofs.answer.refusal.Goals as goal

pub returns-in-Ok : goal.returns-in-Ok
returns-in-Ok c = search rules
