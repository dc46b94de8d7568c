use Rattle.hook_registry.proofs.LaterPriorities.{group-changed, after-changed}
use Rattle.hook_registry.proofs.laws.later_priorities_stay.Goals as goal

pub returns-clause-groups : goal.returns-clause-groups
returns-clause-groups c = group-changed

pub returns-clause-next : goal.returns-clause-next
returns-clause-next c = after-changed
