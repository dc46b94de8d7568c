use Rattle.std.proofs.Common.{◌≡◌, ◌∙◌, sym, subst, true, rules, arith}
use Rattle.std.specs.Prelude.{int_lt}
use Rattle.std.specs.Ordering.{int_eq}
use Rattle.std.proofs.lemmas.List.Sorted.{IsPartitionPoint-from_clause}
use Rattle.hook_registry.specs.declared.group.Group.{Group}
use Rattle.hook_registry.proofs.GroupPlaces.{is_partitioned, still_below, at-from, gap-there, gap-end}
use Rattle.hook_registry.proofs.hook_groups.find.Goals as goal

pub returns-then-is_at : goal.returns-then-is_at
returns-then-is_at c =
    let point =
    IsPartitionPoint-from_clause (λ (g : Group). int_lt g.priority c.args.priority) c.args.groups.now c.partition_point-at.result
    c.partition_point-at.ensures.partitioned
    (is_partitioned (λ z. int_lt z c.args.priority) (still_below c.args.priority) c.args.groups.now c.requires) (λ a r f' k. search rules)
    in
    at-from c.args.priority c.args.groups.now c.partition_point-at.result c.index-groups-at.result point.0 c.if-at-groups.true
    (subst (λ (g : Group). int_eq g.priority c.args.priority ≡ true) c.index-groups-at.is (sym c.is_at.ensures ∙ c.if-is_at.true))

pub returns-else-is_at : goal.returns-else-is_at
returns-else-is_at c =
    let point =
    IsPartitionPoint-from_clause (λ (g : Group). int_lt g.priority c.args.priority) c.args.groups.now c.partition_point-at.result
    c.partition_point-at.ensures.partitioned
    (is_partitioned (λ z. int_lt z c.args.priority) (still_below c.args.priority) c.args.groups.now c.requires) (λ a r f' k. search rules)
    in
    gap-there c.args.priority c.args.groups.now c.partition_point-at.result c.index-groups-at.result point.0 point.1 c.if-at-groups.true c.index-groups-at.is
    (sym c.is_at.ensures ∙ c.if-is_at.false)

pub returns-else-at-groups : goal.returns-else-at-groups
returns-else-at-groups c =
    let point =
    IsPartitionPoint-from_clause (λ (g : Group). int_lt g.priority c.args.priority) c.args.groups.now c.partition_point-at.result
    c.partition_point-at.ensures.partitioned
    (is_partitioned (λ z. int_lt z c.args.priority) (still_below c.args.priority) c.args.groups.now c.requires) (λ a r f' k. search rules)
    in
    gap-end c.args.priority c.args.groups.now c.partition_point-at.result point.0 c.partition_point-at.ensures.bound
    (λ l. omega (arith, l, c.if-at-groups.false))
