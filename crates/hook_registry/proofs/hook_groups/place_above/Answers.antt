use Rattle.std.proofs.Common.{not, rules}
use Rattle.std.specs.Prelude.{int_lt}
use Rattle.std.proofs.lemmas.List.Sorted.{IsPartitionPoint-from_clause}
use Rattle.hook_registry.specs.declared.group.Group.{Group}
use Rattle.hook_registry.proofs.GroupPlaces.{is_partitioned, still_not_above, end-from}
use Rattle.hook_registry.proofs.hook_groups.place_above.Goals as goal

pub returns-after-hint-groups : goal.returns-after-hint-groups
returns-after-hint-groups c =
    rw c.in-Some.is
    (end-from c.in-Some.priority c.args.groups.now c.partition_point.result
    (IsPartitionPoint-from_clause (λ (g : Group). not (int_lt c.in-Some.priority g.priority)) c.args.groups.now c.partition_point.result
    c.partition_point.ensures.partitioned
    (is_partitioned (λ z. not (int_lt c.in-Some.priority z)) (still_not_above c.in-Some.priority) c.args.groups.now c.requires) (λ a r f' k. search rules))
    c.partition_point.ensures.bound)
