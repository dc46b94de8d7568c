use Rattle.std.proofs.Common.{◌≡◌, map, take}
use Rattle.hook_machine.specs.Tagged.{opened_as}
use Rattle.hook_machine.proofs.state.State.opened_as.Given as goal

-- the names that were passed
abbrev pub invariant-loop-name : goal.invariant-loop-name
invariant-loop-name l = l.opened.items ≡ map (opened_as l.self.tags) (take l.name-index l.names)
