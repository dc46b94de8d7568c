use Rattle.std.proofs.Common.{◌≡◌, Ok, length}
use Rattle.hook_machine.specs.Outcomes.{engine_over}
use Rattle.hook_meaning.specs.Trace.{outcome_of, turns_of}
use Rattle.hook_machine.specs.Rest.{rest}
use Rattle.hook_machine.specs.Jobs.{left_from}
use Rattle.hook_machine.specs.Moves.{made_at, trace_of_turn, IsOver}
use Rattle.hook_machine.proofs.run.whole.all_turns.Given as goal

-- what the last turn left ends as all of it does
abbrev pub invariant-turns : goal.invariant-turns
invariant-turns g l =
    let engine = engine_over g.S.Stated.says g.S.Stated.number l.plugins in
    record {
      ends : outcome_of (trace_of_turn l.turned (made_at l.state l.stack) (rest engine l.state l.stack)) ≡ outcome_of (left_from engine l.fn.state l.fn.job l.fn.stack);
      over : IsOver (Ok l.turned) l.stack;
      cache : l.cache ≡ l.fn.cache;
    }

-- the number of turns left
abbrev pub decreases-turns : goal.decreases-turns
decreases-turns g l =
    let engine = engine_over g.S.Stated.says g.S.Stated.number l.plugins in
    length (turns_of (trace_of_turn l.turned (made_at l.state l.stack) (rest engine l.state l.stack)))
