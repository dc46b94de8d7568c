use Rattle.std.proofs.Common.{◌≡◌, map, take}
use Rattle.hook_machine.specs.Loads.{load_change}
use Rattle.hook_machine.proofs.state.loaded.copied.Given as goal

-- the copies of the changes that were passed
abbrev pub invariant-loop-change : goal.invariant-loop-change
invariant-loop-change l = l.copies ≡ map load_change (take l.change-index l.changes)
