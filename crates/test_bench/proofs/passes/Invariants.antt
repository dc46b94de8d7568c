use Rattle.hook_machine.specs.Runs.{IsReady}
use Rattle.test_bench.proofs.passes.Given as goal

-- each pass leaves the run ready for the next one
abbrev pub invariant-loop : goal.invariant-loop
invariant-loop l = IsReady l.run
