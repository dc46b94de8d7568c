use Rattle.std.proofs.Common.{◌++◌, ap, ◌∙◌}
use Rattle.hook_meaning.proofs.Ending.{none_of}
use Rattle.hook_machine.proofs.Steps.{piece_shown, piece_handled, pieces_end}
use Rattle.hook_machine.proofs.run.texts.next_handling.Goals as goal

pub loop-piece-preserved : goal.loop-piece-preserved
loop-piece-preserved c =
    record {
      text = c.take_first.ensures.text ∙ c.loop-piece.invariant.text;
      hand = c.loop-piece.invariant.hand;
      state = c.work_of_piece.ensures.state ∙ c.loop-piece.invariant.state;
      stack = c.work_of_piece.ensures.stack ∙ c.loop-piece.invariant.stack;
      same = λ inv. c.loop-piece.invariant.same inv ∙ piece_shown inv c.args.state.now c.args.parts.now.cut.text c.text-whole.result.now
          c.loop-piece.parts.so_far
          c.loop-piece.parts.cut.pieces c.take_first.new.self.pieces c.in-Some.piece c.in_ok-work.work c.in-Shown.span c.push_str.new.self
          (c.text-whole.ensures ∙ c.take_first.ensures.text ∙ c.loop-piece.invariant.text) c.in-Some.ensures.taken
          (rw c.loop-piece.invariant.state at (c.in_ok-work.ensures.work inv))
          c.in-Shown.is (c.in_ok-push_str-in-Shown.ensures.ok ∙ ap (λ t. c.loop-piece.parts.so_far ++ t) c.text_at.ensures);
    }

pub returns-in-Handled-clause-found : goal.returns-in-Handled-clause-found
returns-in-Handled-clause-found c =
    λ inv. c.loop-piece.invariant.same inv ∙ piece_handled inv c.args.state.now c.args.parts.now.cut.text c.text-whole.result.now c.loop-piece.parts.so_far
    c.loop-piece.parts.cut.pieces c.take_first.new.self.pieces c.in-Some.piece c.in_ok-work.work c.in-Handled.invoked c.in-Handled.matched
    (c.text-whole.ensures ∙ c.take_first.ensures.text ∙ c.loop-piece.invariant.text) c.in-Some.ensures.taken
    (rw c.loop-piece.invariant.state at (c.in_ok-work.ensures.work inv)) c.in-Handled.is

pub returns-clause-found : goal.returns-clause-found
returns-clause-found c =
    λ inv. c.loop-piece.invariant.same inv ∙ pieces_end inv c.args.state.now c.args.parts.now.cut.text c.loop-piece.parts.so_far c.loop-piece.parts.cut.pieces
    (let h = none_of _ c.in_default.not-Some in let k = rw h at c.take_first.ensures.taken in k.0)
