use Rattle.std.proofs.Common.{◌∷◌, ◌∙◌, Err, subst, refl, sym, ap}
use Rattle.std.proofs.lemmas.Result.{err_from_is_err_and}
use Rattle.hook_changes.specs.declared.reply.Then.TheVariants as next
use Rattle.hook_machine.specs.declared.run.frames.Frame.TheVariants as frame
use Rattle.hook_machine.specs.declared.run.frames.Pending.TheVariants.{Next}
use Rattle.hook_meaning.specs.Trace.{Turn}
use Rattle.hook_meaning.specs.World.{World}
use Rattle.hook_meaning.specs.Meaning.{invoke}
use Rattle.hook_machine.specs.Moves.{Invokes, made_by}
use Rattle.hook_machine.specs.Outcomes.{engine_over}
use Rattle.hook_machine.specs.Rest.{text_left, then_rest}
use Rattle.hook_machine.proofs.Steps.{answer_goes}
use Rattle.hook_machine.proofs.Going.{put_moves, goes_over, goes_waiting, goes_refused}
use Rattle.hook_machine.proofs.Moving.{text_invokes, answer_placed}
use Rattle.hook_machine.proofs.run.texts.text_turn.Goals as goal

pub returns-in_err-went-in-Some-clause-moves : goal.returns-in_err-went-in-Some-clause-moves
returns-in_err-went-in-Some-clause-moves g c =
    let engine = engine_over g.S.Stated.says g.S.Stated.number c.args.plugins.now in
    let p = err_from_is_err_and c.from_residual-in_err-went-in-Some.result c.from_residual-in_err-went-in-Some.ensures.1 in
    let goes = text_invokes engine c.pieces.state c.pieces.pass c.next_handling.new.self c.in_ok-next_handling.field-0 c.in-Some.handling
    c.in_ok-next_handling.ensures.found c.in-Some.is c.next_handling.ensures.same (rw c.in-Some.is at c.in_ok-next_handling.ensures.hand) in
    rw (p.1, p.2) (goes_refused engine (then_rest engine (text_left engine c.args.state.now c.args.pass) c.args.stack.now)
    (text_left engine c.pieces.state c.pieces.pass) c.pieces.state c.in-Some.handling.invoked.callback c.in-Some.handling.invoked.call
    (frame.Shortcodes c.next_handling.new.self) c.pieces.stack goes c.pieces.invariant.leads c.in_err-went-in-Some.field-0.0 c.invoke.new.state
    (subst (λ (w : World). Invokes engine (invoke engine w c.in-Some.handling.invoked.callback c.in-Some.handling.invoked.call)
    (Err c.in_err-went-in-Some.field-0.0) c.invoke.new.state) c.next_handling.ensures.state c.in_err-went-in-Some.ensures.invokes) _ _)

pub returns-then-filters_shortcodes-clause-moves : goal.returns-then-filters_shortcodes-clause-moves
returns-then-filters_shortcodes-clause-moves g c =
    let engine = engine_over g.S.Stated.says g.S.Stated.number c.args.plugins.now in
    let goes = text_invokes engine c.pieces.state c.pieces.pass c.next_handling.new.self c.in_ok-next_handling.field-0 c.in-Some.handling
    c.in_ok-next_handling.ensures.found c.in-Some.is c.next_handling.ensures.same (rw c.in-Some.is at c.in_ok-next_handling.ensures.hand) in
    let later = record c.in-Answered.invoked { pending = Next (next.Answer c.in-Answered.answer) } in
    rw c.filters_shortcodes.ensures.same (put_moves engine _ c.filter_later.result c.invoke.new.state (frame.Invocation later
    ∷ frame.Shortcodes c.next_handling.new.self ∷ c.pieces.stack)
    c.filter_later.new.stack (rw c.next_handling.ensures.stack at c.filter_later.ensures.ok) c.filter_later.ensures.err
    (goes_waiting engine (then_rest engine (text_left engine c.args.state.now c.args.pass) c.args.stack.now) (text_left engine c.pieces.state c.pieces.pass)
    c.pieces.state c.in-Some.handling.invoked.callback c.in-Some.handling.invoked.call (frame.Shortcodes c.next_handling.new.self) c.pieces.stack goes
    c.pieces.invariant.leads c.invoke.new.state later _
    ((rw (c.next_handling.ensures.state, c.in-Answered.is) at c.in_ok-went-in-Some.ensures.invokes)
    ∙ ap (Turn (made_by c.invoke.new.state c.in-Answered.invoked)) (sym (answer_goes engine c.invoke.new.state c.in-Answered.invoked.callback c.in-Answered.invoked.call c.in-Answered.answer)))
    refl))

pub pieces-preserved : goal.pieces-preserved
pieces-preserved g c =
    let engine = engine_over g.S.Stated.says g.S.Stated.number c.args.plugins.now in
    let goes = text_invokes engine c.pieces.state c.pieces.pass c.next_handling.new.self c.in_ok-next_handling.field-0 c.in-Some.handling
    c.in_ok-next_handling.ensures.found c.in-Some.is c.next_handling.ensures.same (rw c.in-Some.is at c.in_ok-next_handling.ensures.hand) in
    record {
      frames = c.keep_spare.ensures ∙ c.next_handling.ensures.stack ∙ c.pieces.invariant.frames;
      leads = rw (c.keep_spare.ensures, c.next_handling.ensures.stack, c.filters_shortcodes.ensures.same)
          (goes_over engine (then_rest engine (text_left engine c.args.state.now c.args.pass) c.args.stack.now)
          (text_left engine c.pieces.state c.pieces.pass) c.pieces.state c.in-Some.handling.invoked.callback
          c.in-Some.handling.invoked.call (frame.Shortcodes c.next_handling.new.self) c.pieces.stack goes c.pieces.invariant.leads _ c.invoke.new.state
          c.in-Answered.answer (text_left engine c.invoke.new.state c.append.new.self)
          (rw (c.next_handling.ensures.state, c.in-Answered.is) at c.in_ok-went-in-Some.ensures.invokes)
          (rw c.in-Answered.is at c.in_ok-went-in-Some.ensures.may)
          (answer_placed engine c.invoke.new.state c.next_handling.new.self c.append.new.self c.in-Answered.answer
          (sym c.filters_shortcodes.ensures.found ∙ c.if-filters_shortcodes.false) (rw c.as_str.ensures at c.in_ok-append-in-Answered.ensures)));
    }

pub returns-in-Waits-clause-moves : goal.returns-in-Waits-clause-moves
returns-in-Waits-clause-moves g c =
    let engine = engine_over g.S.Stated.says g.S.Stated.number c.args.plugins.now in
    let goes = text_invokes engine c.pieces.state c.pieces.pass c.next_handling.new.self c.in_ok-next_handling.field-0 c.in-Some.handling
    c.in_ok-next_handling.ensures.found c.in-Some.is c.next_handling.ensures.same (rw c.in-Some.is at c.in_ok-next_handling.ensures.hand) in
    put_moves engine _ c.wait_for_handler.result c.invoke.new.state
    (frame.Invocation c.in-Waits.invoked ∷ frame.Shortcodes c.next_handling.new.self ∷ c.pieces.stack)
    c.wait_for_handler.new.stack (rw c.next_handling.ensures.stack at c.wait_for_handler.ensures.ok) c.wait_for_handler.ensures.err
    (goes_waiting engine (then_rest engine (text_left engine c.args.state.now c.args.pass) c.args.stack.now) (text_left engine c.pieces.state c.pieces.pass)
    c.pieces.state c.in-Some.handling.invoked.callback c.in-Some.handling.invoked.call (frame.Shortcodes c.next_handling.new.self) c.pieces.stack goes
    c.pieces.invariant.leads c.invoke.new.state c.in-Waits.invoked _
    (rw (c.next_handling.ensures.state, c.in-Waits.is) at c.in_ok-went-in-Some.ensures.invokes) refl)
