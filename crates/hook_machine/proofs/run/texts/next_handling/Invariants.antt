use Rattle.std.proofs.Common.{◌≡◌, length}
use Rattle.hook_meaning.specs.Meaning.{Invocation, pieces_pass}
use Rattle.hook_machine.proofs.run.texts.next_handling.Given as goal

-- the pieces left go on as all of them do
abbrev pub invariant-loop-piece : goal.invariant-loop-piece
invariant-loop-piece l =
    record {
      text : l.parts.cut.text ≡ l.fn.parts.cut.text;
      hand : l.parts.hand ≡ l.fn.parts.hand;
      state : l.state ≡ l.fn.state;
      stack : l.stack ≡ l.fn.stack;
      same : (invocation : Invocation) → pieces_pass invocation l.fn.parts.cut.text l.fn.state l.fn.parts.so_far l.fn.parts.cut.pieces
          ≡ pieces_pass invocation l.fn.parts.cut.text l.fn.state l.parts.so_far l.parts.cut.pieces;
    }

abbrev pub decreases-loop-piece : goal.decreases-loop-piece
decreases-loop-piece l = length l.parts.cut.pieces
