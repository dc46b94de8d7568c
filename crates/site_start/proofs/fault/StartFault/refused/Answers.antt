use Rattle.std.proofs.Common.{refl}
use Rattle.site_start.proofs.fault.StartFault.refused.Goals as goal

pub returns-clause-told : goal.returns-clause-told
returns-clause-told c = λ n is. (is, (c.args.refusal, refl, c.number.ensures, c.name.ensures))
