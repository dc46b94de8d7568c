use Rattle.std.proofs.Common.{◌≡◌, take, map}
use Rattle.hook_machine.specs.Loads.{load_change}
use Rattle.hook_machine.proofs.state.loaded.are_same.Given as goal

-- the changes that were passed are the same
abbrev pub invariant-loop-at : goal.invariant-loop-at
invariant-loop-at l = take l.at l.kept ≡ take l.at (map load_change l.changes)
