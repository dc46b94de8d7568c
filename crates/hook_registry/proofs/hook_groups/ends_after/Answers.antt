use Rattle.std.proofs.Common.{◌≡◌, ℕ, suc, ◌+◌, ◌<◌, ℤ, Bool, List, length, get_or, true, false, ap, sym, subst, arith, ◌∙◌}
use Rattle.std.specs.Prelude.{int_lt}
use Rattle.hook_registry.specs.declared.group.Group.{Group}
use Rattle.hook_registry.specs.Groups.{AreGroups, IsEnd}
use Rattle.hook_registry.proofs.GroupPlaces.{end-after}
use Rattle.hook_registry.proofs.hook_groups.ends_after.Goals as goal

one_more : (n : ℕ) → suc n ≡ 1 + n
one_more n = omega arith

one_after : (n : ℕ) → suc n ≡ n + 1
one_after n = omega arith

-- as the lemma, with the index after the place as code adds it
after : (priority : ℤ) (groups : List Group) (at : ℕ) (first second : Group) → AreGroups groups → at < length groups
    → int_lt priority (get_or groups at first).priority ≡ false
    → (at + 1 < length groups → int_lt priority (get_or groups (at + 1) second).priority ≡ true) → IsEnd priority groups (1 + at)
after priority groups at first second are_groups within not_above next_above =
    subst (λ i. IsEnd priority groups i) (one_more at)
    (end-after priority groups at first second are_groups within not_above
    (subst (λ i. i < length groups → int_lt priority (get_or groups i second).priority ≡ true) (sym (one_after at)) next_above))

not_past : (at n : ℕ) → at + 1 ≡ n → at + 1 < n → ⊥
not_past at n e l = omega (arith, e, l)

-- a test of the group that is read at an index
read : (priority : ℤ) (groups : List Group) (at : ℕ) (group : Group) (is_above is : Bool) → is_above ≡ int_lt priority group.priority → is_above ≡ is
    → group ≡ get_or groups at group
    → int_lt priority (get_or groups at group).priority ≡ is
read priority groups at group tested is tested_is is_result group_is = ap (λ (x : Group). int_lt priority x.priority) (sym group_is) ∙ sym tested_is ∙ is_result

pub returns-then-at-groups : goal.returns-then-at-groups
returns-then-at-groups c =
    λ t. after c.args.priority c.args.groups.now c.args.at c.index-groups-at.result c.index-groups-at.result c.requires.plan c.requires.within
    (read c.args.priority c.args.groups.now c.args.at c.index-groups-at.result c.is_above.result false c.is_above.ensures c.if-is_above.false
    c.index-groups-at.is)
    (λ l. absurd (not_past c.args.at (length c.args.groups.now) c.if-at-groups.true l))

pub returns-else-at-groups : goal.returns-else-at-groups
returns-else-at-groups c =
    λ t. after c.args.priority c.args.groups.now c.args.at c.index-groups-at.result c.index-groups-at-else-at-groups.result c.requires.plan
    c.requires.within
    (read c.args.priority c.args.groups.now c.args.at c.index-groups-at.result c.is_above.result false c.is_above.ensures c.if-is_above.false
    c.index-groups-at.is)
    (λ l. read c.args.priority c.args.groups.now (c.args.at + 1) c.index-groups-at-else-at-groups.result c.is_above-else-at-groups.result true
    c.is_above-else-at-groups.ensures t c.index-groups-at-else-at-groups.is)
