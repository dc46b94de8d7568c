use Rattle.std.proofs.Common.{◌≡◌}
use Rattle.hook_machine.specs.Outcomes.{engine_over}
use Rattle.hook_machine.specs.Rest.{text_left, then_rest}
use Rattle.hook_machine.specs.Moves.{Leads}
use Rattle.hook_machine.proofs.run.texts.text_turn.Given as goal

-- what was left leads to what is left of the pass now, for frames that stay as they are
abbrev pub invariant-pieces : goal.invariant-pieces
invariant-pieces g l =
    let engine = engine_over g.S.Stated.says g.S.Stated.number l.plugins in
    record {
      frames : l.stack ≡ l.fn.stack;
      leads : Leads l.pace (then_rest engine (text_left engine l.fn.state l.fn.pass) l.fn.stack) (then_rest engine (text_left engine l.state l.pass) l.stack);
    }

abbrev pub decreases-pieces : goal.decreases-pieces
decreases-pieces g l = l.state.calls
