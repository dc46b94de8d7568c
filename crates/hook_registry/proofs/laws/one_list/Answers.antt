use Rattle.hook_registry.proofs.OneList.{registrations-after, group-after, next-after, has-after, priority_of-after, there-after}
use Rattle.hook_registry.proofs.laws.one_list.Goals as goal

pub returns-clause-registrations : goal.returns-clause-registrations
returns-clause-registrations c = registrations-after

pub returns-clause-groups : goal.returns-clause-groups
returns-clause-groups c = group-after

pub returns-clause-next : goal.returns-clause-next
returns-clause-next c = next-after

pub returns-clause-has : goal.returns-clause-has
returns-clause-has c = has-after

pub returns-clause-least : goal.returns-clause-least
returns-clause-least c = priority_of-after

pub returns-clause-there : goal.returns-clause-there
returns-clause-there c = there-after
