use Rattle.hook_machine.specs.Runs.{CanBegin}
use Rattle.test_engine.proofs.runs.answers_each.Given as goal

-- the next pass can begin
abbrev pub invariant-loop-step : goal.invariant-loop-step
invariant-loop-step l = CanBegin l.run
