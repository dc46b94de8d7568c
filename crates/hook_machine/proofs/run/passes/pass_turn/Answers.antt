use Rattle.std.proofs.Common.{◌∷◌, ◌∙◌, Ok, sym, ap, List}
use Rattle.std.proofs.lemmas.Result.{err_from_is_err_and}
use Rattle.hook_machine.specs.declared.run.frames.Frame.{Frame}
use Rattle.hook_machine.specs.declared.run.frames.Frame.TheVariants as frame
use Rattle.hook_machine.specs.declared.run.frames.Move.TheVariants.{Handed}
use Rattle.hook_machine.specs.Outcomes.{engine_over}
use Rattle.hook_machine.specs.Rest.{pass_left, then_rest}
use Rattle.hook_machine.proofs.Going.{moves_then, goes_over, goes_waiting, goes_refused}
use Rattle.hook_machine.proofs.Moving.{pass_invokes, pass_handed, leave_moves}
use Rattle.hook_machine.proofs.run.passes.pass_turn.Goals as goal

pub returns-in-None-clause-moves : goal.returns-in-None-clause-moves
returns-in-None-clause-moves g c =
    let engine = engine_over g.S.Stated.says g.S.Stated.number c.args.plugins.now in
    rw (c.keep_pass.ensures, c.take_value-value.ensures.value, c.in_ok-next.ensures.moved)
    (moves_then engine (Ok (Handed c.entries.pass.value)) c.leave.new.self c.entries.stack
    c.entries.invariant.leads (leave_moves engine c.entries.state c.leave.new.self c.entries.pass c.entries.stack
    (sym c.in-None.is ∙ c.in_ok-next.ensures.entry) c.leave.ensures))

pub returns-in_err-went-in-Some-clause-moves : goal.returns-in_err-went-in-Some-clause-moves
returns-in_err-went-in-Some-clause-moves g c =
    let engine = engine_over g.S.Stated.says g.S.Stated.number c.args.plugins.now in
    let p = err_from_is_err_and c.from_residual-in_err-went-in-Some.result c.from_residual-in_err-went-in-Some.ensures.1 in
    let goes = pass_invokes engine c.entries.state c.entries.pass c.next.new.self c.next_invocation.new.pass c.in-Some.entry c.in_ok-invoked-in-Some.invoked
    (sym c.in-Some.is ∙ c.in_ok-next.ensures.entry) c.in_ok-next.ensures.moved c.in_ok-invoked-in-Some.ensures.callback
    c.in_ok-invoked-in-Some.ensures.call c.in_ok-invoked-in-Some.ensures.kept c.in_ok-invoked-in-Some.ensures.pass in
    rw (p.1, p.2) (goes_refused engine (then_rest engine (pass_left engine c.args.state.now c.args.pass) c.args.stack.now)
    (pass_left engine c.entries.state c.entries.pass) c.entries.state c.in_ok-invoked-in-Some.invoked.callback c.in_ok-invoked-in-Some.invoked.call
    (frame.Pass c.next_invocation.new.pass) c.entries.stack goes c.entries.invariant.leads c.in_err-went-in-Some.field-0.0 c.invoke.new.state
    c.in_err-went-in-Some.ensures.invokes _ _)

pub entries-preserved : goal.entries-preserved
entries-preserved g c =
    let engine = engine_over g.S.Stated.says g.S.Stated.number c.args.plugins.now in
    let goes = pass_invokes engine c.entries.state c.entries.pass c.next.new.self c.next_invocation.new.pass c.in-Some.entry c.in_ok-invoked-in-Some.invoked
    (sym c.in-Some.is ∙ c.in_ok-next.ensures.entry) c.in_ok-next.ensures.moved c.in_ok-invoked-in-Some.ensures.callback
    c.in_ok-invoked-in-Some.ensures.call c.in_ok-invoked-in-Some.ensures.kept c.in_ok-invoked-in-Some.ensures.pass in
    record {
      frames = c.keep_spare.ensures ∙ c.next_invocation.ensures.stack ∙ c.entries.invariant.frames;
      leads = rw (c.keep_spare.ensures, c.next_invocation.ensures.stack) (goes_over engine (then_rest engine (pass_left engine c.args.state.now c.args.pass) c.args.stack.now)
          (pass_left engine c.entries.state c.entries.pass) c.entries.state c.in_ok-invoked-in-Some.invoked.callback
          c.in_ok-invoked-in-Some.invoked.call (frame.Pass c.next_invocation.new.pass) c.entries.stack goes c.entries.invariant.leads _ c.invoke.new.state
          c.in-Answered.answer (pass_left engine c.invoke.new.state c.hand_in_turn.new.self)
          (rw c.in-Answered.is at c.in_ok-went-in-Some.ensures.invokes)
          (rw c.in-Answered.is at c.in_ok-went-in-Some.ensures.may)
          (pass_handed engine c.invoke.new.state c.next_invocation.new.pass c.hand_in_turn.new.self c.in-Answered.answer
          c.in_ok-hand_in_turn-in-Answered.ensures));
    }

pub returns-in-Waits-clause-moves : goal.returns-in-Waits-clause-moves
returns-in-Waits-clause-moves g c =
    let engine = engine_over g.S.Stated.says g.S.Stated.number c.args.plugins.now in
    let goes = pass_invokes engine c.entries.state c.entries.pass c.next.new.self c.next_invocation.new.pass c.in-Some.entry c.in_ok-invoked-in-Some.invoked
    (sym c.in-Some.is ∙ c.in_ok-next.ensures.entry) c.in_ok-next.ensures.moved c.in_ok-invoked-in-Some.ensures.callback
    c.in_ok-invoked-in-Some.ensures.call c.in_ok-invoked-in-Some.ensures.kept c.in_ok-invoked-in-Some.ensures.pass in
    goes_waiting engine (then_rest engine (pass_left engine c.args.state.now c.args.pass) c.args.stack.now) (pass_left engine c.entries.state c.entries.pass)
    c.entries.state c.in_ok-invoked-in-Some.invoked.callback c.in_ok-invoked-in-Some.invoked.call (frame.Pass c.next_invocation.new.pass) c.entries.stack goes
    c.entries.invariant.leads c.invoke.new.state c.in-Waits.invoked c.put_first-in-Waits.new.self
    (rw c.in-Waits.is at c.in_ok-went-in-Some.ensures.invokes)
    (c.in_ok-put_first-in-Waits-2.ensures.ok ∙ ap (λ (l : List Frame). frame.Invocation c.in-Waits.invoked ∷ l) c.in_ok-put_first-in-Waits.ensures.ok
    ∙ ap (λ (l : List Frame). frame.Invocation c.in-Waits.invoked ∷ frame.Pass c.next_invocation.new.pass ∷ l) c.next_invocation.ensures.stack)
