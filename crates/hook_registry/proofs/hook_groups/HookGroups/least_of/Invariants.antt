use Rattle.std.specs.List.{AllWithin}
use Rattle.hook_registry.proofs.Looks.{IsWithout}
use Rattle.hook_registry.proofs.hook_groups.HookGroups.least_of.Given as goal

-- no group passed has an entry of the callback
abbrev pub invariant-loop-group : goal.invariant-loop-group
invariant-loop-group l = AllWithin (IsWithout l.callback) l.group-items 0 l.group-index
