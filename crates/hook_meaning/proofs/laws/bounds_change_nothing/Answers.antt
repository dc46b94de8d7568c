use Rattle.std.proofs.Common.{refl}
use Rattle.hook_meaning.specs.Meaning.{priorities_pass}
use Rattle.hook_meaning.proofs.Agree.{invoke-step}
use Rattle.hook_meaning.proofs.Walk.{walk, walk-some}
use Rattle.hook_meaning.proofs.laws.bounds_change_nothing.Goals as goal

pub returns-clause-invocation : goal.returns-clause-invocation
returns-clause-invocation c = invoke-step

pub returns-clause-next : goal.returns-clause-next
unfolding walk
returns-clause-next c = walk-some

pub returns-clause-none : goal.returns-clause-none
unfolding priorities_pass
returns-clause-none c = λ engine kind hook args world value. refl
