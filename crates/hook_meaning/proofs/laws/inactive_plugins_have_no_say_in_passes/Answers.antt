use Rattle.std.proofs.Common.{refl}
use Rattle.hook_meaning.proofs.Isolated.{loaded-same, these-filtered, these-acted, these-replaced}
use Rattle.hook_meaning.proofs.laws.inactive_plugins_have_no_say_in_passes.Goals as goal

pub returns-clause-loaded : goal.returns-clause-loaded
returns-clause-loaded c one other calls options active agree = loaded-same active one other agree calls options

pub returns-clause-filtered : goal.returns-clause-filtered
returns-clause-filtered c one other world hook value args agree names = these-filtered world.active one other agree world hook value args (refl, names)

pub returns-clause-acted : goal.returns-clause-acted
returns-clause-acted c one other world hook args agree names = these-acted world.active one other agree world hook args (refl, names)

pub returns-clause-replaced : goal.returns-clause-replaced
returns-clause-replaced c one other world text agree names = these-replaced world.active one other agree world text (refl, names)
