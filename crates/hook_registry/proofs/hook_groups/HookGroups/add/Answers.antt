use Rattle.std.proofs.Common.{arith}
use Rattle.hook_registry.proofs.Hooks.{either}
use Rattle.hook_registry.proofs.Edits.{within, within_gap, plan-set, plan-insert, has_entry-added, has_entry-at, added-set, added-insert}
use Rattle.hook_registry.proofs.hook_groups.HookGroups.add.Goals as goal

pub index_mut-requires : goal.index_mut-requires
index_mut-requires c = let k = within c.args.priority c.deref.result.now c.in-Ok.at c.in-Ok.ensures in omega (arith, k, c.deref.ensures.len)

pub insert-requires : goal.insert-requires
insert-requires c = let k = within_gap c.args.priority c.deref.result.now c.in-Err.at c.in-Err.ensures in omega (arith, k, c.deref.ensures.len)

pub invariant_of-self : goal.invariant_of-self
invariant_of-self c =
    let at = rw c.deref.ensures.value at c.in-Ok.ensures in
    let there = within c.args.priority c.self.inside.groups.items c.in-Ok.at at in
    either c.add.result
    (λ e. rw e
    (plan-set c.self.inside.groups.items c.in-Ok.at c.index_mut.result.now _ c.self.invariant
    (has_entry-added c.index_mut.result.now.entries c.args.new) c.index_mut.ensures.value there))
    (λ e. rw e
    (plan-set c.self.inside.groups.items c.in-Ok.at c.index_mut.result.now _ c.self.invariant
    (has_entry-at c.self.inside.groups.items c.in-Ok.at c.index_mut.result.now c.self.invariant c.index_mut.ensures.value there)
    c.index_mut.ensures.value there))
    c.add.ensures.added c.add.ensures.err

pub returns-in_ok-add-in-Ok-clause-added : goal.returns-in_ok-add-in-Ok-clause-added
returns-in_ok-add-in-Ok-clause-added c =
    let at = rw c.deref.ensures.value at c.in-Ok.ensures in
    rw (← c.self.view_is, c.in_ok-add-in-Ok.ensures.added)
    (added-set c.args.priority c.args.new c.self.inside.groups.items c.in-Ok.at c.index_mut.result.now c.index_mut.result.now c.self.invariant at
    c.index_mut.ensures.value c.index_mut.ensures.value)

pub invariant_of-self-in-Continue-branch-3 : goal.invariant_of-self-in-Continue-branch-3
invariant_of-self-in-Continue-branch-3 c =
    let at = rw c.deref.ensures.value at c.in-Err.ensures in
    rw (c.in_ok-insert-in-Err.ensures.items, c.in_ok-entries-in-Err.ensures)
    (plan-insert c.args.priority c.self.inside.groups.items c.in-Err.at _ c.self.invariant at tt)

pub returns-in_ok-insert-in-Err-clause-added : goal.returns-in_ok-insert-in-Err-clause-added
returns-in_ok-insert-in-Err-clause-added c =
    let at = rw c.deref.ensures.value at c.in-Err.ensures in
    rw (← c.self.view_is, c.in_ok-insert-in-Err.ensures.items, c.in_ok-entries-in-Err.ensures)
    (added-insert c.args.priority c.args.new c.self.inside.groups.items c.in-Err.at c.self.invariant at)
