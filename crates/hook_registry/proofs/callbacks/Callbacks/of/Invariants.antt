use Rattle.std.proofs.Common.{◌≡◌, ℕ, take}
use Rattle.std.specs.List.{list_any}
use Rattle.hook_registry.specs.Entries.{is_among, is_by}
use Rattle.hook_registry.proofs.callbacks.Callbacks.of.Given as goal

-- the callbacks of the entries that were passed
abbrev pub invariant-loop-entry : goal.invariant-loop-entry
invariant-loop-entry l = (c : ℕ) → is_among l.numbers.keys c ≡ list_any (is_by c) (take l.entry-index l.entries)
