use Rattle.std.proofs.Common.{◌≡◌, ◌++◌, drop}
use Rattle.hook_machine.specs.Loads.{registered_after_all, core_load}
use Rattle.hook_machine.proofs.state.tables.Tables.load.Given as goal

-- carrying out the changes that are left leads to where the whole load leads
abbrev pub invariant-loop-change : goal.invariant-loop-change
invariant-loop-change l = registered_after_all l.self (drop l.change-index l.load) ≡ registered_after_all l.fn.self (core_load ++ l.load)
