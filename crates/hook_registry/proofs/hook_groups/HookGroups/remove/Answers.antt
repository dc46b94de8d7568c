use Rattle.std.proofs.Common.{arith, ◌∙◌, ap, sym, refl, length}
use Rattle.std.specs.Prelude.{◌==◌}
use Rattle.hook_registry.specs.declared.group.Group.{Group}
use Rattle.hook_registry.specs.Groups.{registrations_of, HasEntry}
use Rattle.hook_registry.proofs.Edits.{within, group_of, plan-remove, plan-set, has_entry-some, empty-none, removed-set, removed-last, removed-none}
use Rattle.hook_registry.proofs.Looks.{any-there, any-gap, remove-set, at-set}
use Rattle.hook_registry.proofs.hook_groups.HookGroups.remove.Goals as goal

pub index_mut-requires : goal.index_mut-requires
index_mut-requires c = let k = within c.args.priority c.deref.result.now c.in-Ok.at c.in-Ok.ensures in omega (arith, k, c.deref.ensures.len)

pub index-requires : goal.index-requires
index-requires c = let k = within c.args.priority c.deref.result.now c.in-Ok.at c.in-Ok.ensures in omega (arith, k, c.deref.ensures.len)

pub remove-requires : goal.remove-requires
remove-requires c = let k = within c.args.priority c.deref.result.now c.in-Ok.at c.in-Ok.ensures in omega (arith, k, c.deref.ensures.len)

pub invariant_of-self : goal.invariant_of-self
invariant_of-self c =
    let same = c.remove.ensures.items ∙ remove-set c.self.inside.groups.items c.in-Ok.at
    (group_of c.index_mut.result.now.priority c.remove-was_there.new.self) in
    rw same (plan-remove c.self.inside.groups.items c.in-Ok.at c.self.invariant)

pub invariant_of-self-else-is_empty : goal.invariant_of-self-else-is_empty
invariant_of-self-else-is_empty c =
    let at = rw c.deref.ensures.value at c.in-Ok.ensures in
    let there = within c.args.priority c.self.inside.groups.items c.in-Ok.at at in
    let left = c.remove-was_there.new.self in
    let here = at-set c.self.inside.groups.items c.in-Ok.at (group_of c.index_mut.result.now.priority left) c.index.result.now there c.index.ensures in
    let some : HasEntry left = has_entry-some left (length left) refl
    (ap (λ (g : Group). length g.entries == 0) (sym here) ∙ sym c.is_empty.ensures ∙ c.if-is_empty.false) in
    plan-set c.self.inside.groups.items c.in-Ok.at c.index_mut.result.now left c.self.invariant some c.index_mut.ensures.value there

pub returns-then-is_empty-clause-removed : goal.returns-then-is_empty-clause-removed
returns-then-is_empty-clause-removed c =
    let at = rw c.deref.ensures.value at c.in-Ok.ensures in
    let there = within c.args.priority c.self.inside.groups.items c.in-Ok.at at in
    let left = c.remove-was_there.new.self in
    let here = at-set c.self.inside.groups.items c.in-Ok.at (group_of c.index_mut.result.now.priority left) c.index.result.now there c.index.ensures in
    let none = empty-none left (length left) refl
    (ap (λ (g : Group). length g.entries == 0) (sym here) ∙ sym c.is_empty.ensures ∙ c.if-is_empty.true) in
    rw (← c.self.view_is)
    (ap registrations_of (c.remove.ensures.items ∙ remove-set c.self.inside.groups.items c.in-Ok.at (group_of c.index_mut.result.now.priority left))
    ∙ removed-last c.args.priority c.args.callback c.self.inside.groups.items c.in-Ok.at c.index_mut.result.now c.self.invariant at c.index_mut.ensures.value
    (sym c.remove-was_there.ensures.removed ∙ none))

pub returns-then-is_empty-clause-there : goal.returns-then-is_empty-clause-there
returns-then-is_empty-clause-there c =
    let at = rw c.deref.ensures.value at c.in-Ok.ensures in
    rw (← c.self.view_is)
    (c.remove-was_there.ensures.there ∙ any-there c.args.priority c.args.callback c.self.inside.groups.items c.in-Ok.at c.index_mut.result.now c.self.invariant at
    c.index_mut.ensures.value)

pub returns-else-is_empty-clause-removed : goal.returns-else-is_empty-clause-removed
returns-else-is_empty-clause-removed c =
    let at = rw c.deref.ensures.value at c.in-Ok.ensures in
    rw (← c.self.view_is)
    (removed-set c.args.priority c.args.callback c.self.inside.groups.items c.in-Ok.at c.index_mut.result.now c.index_mut.result.now c.remove-was_there.new.self
    c.self.invariant at c.index_mut.ensures.value c.index_mut.ensures.value c.remove-was_there.ensures.removed)

pub returns-else-is_empty-clause-there : goal.returns-else-is_empty-clause-there
returns-else-is_empty-clause-there c =
    let at = rw c.deref.ensures.value at c.in-Ok.ensures in
    rw (← c.self.view_is)
    (c.remove-was_there.ensures.there ∙ any-there c.args.priority c.args.callback c.self.inside.groups.items c.in-Ok.at c.index_mut.result.now c.self.invariant at
    c.index_mut.ensures.value)

pub returns-in-Err-clause-removed : goal.returns-in-Err-clause-removed
returns-in-Err-clause-removed c =
    rw (← c.self.view_is) (removed-none c.args.priority c.args.callback c.self.inside.groups.items c.in-Err.field-0 c.self.invariant
    (rw c.deref.ensures.value at c.in-Err.ensures))

pub returns-in-Err-clause-there : goal.returns-in-Err-clause-there
returns-in-Err-clause-there c =
    rw (← c.self.view_is) (any-gap c.args.priority c.args.callback c.self.inside.groups.items c.in-Err.field-0 c.self.invariant
    (rw c.deref.ensures.value at c.in-Err.ensures))
