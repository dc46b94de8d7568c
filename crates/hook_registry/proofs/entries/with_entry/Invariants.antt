use Rattle.std.proofs.Common.{◌≡◌}
use Rattle.std.specs.List.{AllWithin}
use Rattle.hook_registry.proofs.Adding.{IsOther}
use Rattle.hook_registry.proofs.entries.with_entry.Given as goal

-- the copy is as the entries are, and no entry passed is the callback's
abbrev pub invariant-loop-at : goal.invariant-loop-at
invariant-loop-at l = record {
  same : l.changed.items ≡ l.entries;
  passed : AllWithin (IsOther l.new) l.entries 0 l.at;
}
