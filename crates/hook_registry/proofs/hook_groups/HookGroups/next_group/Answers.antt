use Rattle.hook_registry.proofs.NextGroup.{group_found}
use Rattle.std.proofs.Common.{None, Some, Bor}
use Rattle.hook_registry.specs.declared.group.Group.{Group}
use Rattle.hook_registry.proofs.hook_groups.HookGroups.next_group.Goals as goal

pub returns-in-None : goal.returns-in-None
returns-in-None c =
    rw (← c.self.view_is)
    (group_found (λ (x : Bor Group). x.now) c.args.above c.self.inside.groups.items c.place_above-at.result None c.self.invariant
    (rw c.deref.ensures.value at c.place_above-at.ensures) (rw c.deref-2.ensures.value at c.in-None.ensures.lookup.3))

pub returns-in-Some : goal.returns-in-Some
returns-in-Some c =
    rw (← c.self.view_is)
    (group_found (λ (x : Bor Group). x.now) c.args.above c.self.inside.groups.items c.place_above-at.result (Some c.in-Some.group) c.self.invariant
    (rw c.deref.ensures.value at c.place_above-at.ensures) (rw c.deref-2.ensures.value at c.in-Some.ensures.lookup.3))
