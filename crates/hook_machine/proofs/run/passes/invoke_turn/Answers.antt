use Rattle.std.proofs.lemmas.Result.{err_from_is_err_and}
use Rattle.hook_machine.specs.Outcomes.{engine_over}
use Rattle.hook_meaning.specs.Meaning.{invoke}
use Rattle.hook_machine.proofs.Going.{invoking_refused, answer_handed, invocation_waits}
use Rattle.hook_machine.proofs.run.passes.invoke_turn.Goals as goal

pub returns-in_err-went-clause-moves : goal.returns-in_err-went-clause-moves
returns-in_err-went-clause-moves g c =
    let p = err_from_is_err_and c.from_residual.result c.from_residual.ensures.1 in
    let engine = engine_over g.S.Stated.says g.S.Stated.number c.args.plugins.now in
    rw (p.1, p.2) (invoking_refused engine (invoke engine c.args.state.now c.args.invoked.callback c.args.invoked.call) c.in_err-went.field-0.0
    c.invoke.new.state c.args.stack.now c.in_err-went.ensures.invokes _ _)

pub returns-in-Answered-clause-moves : goal.returns-in-Answered-clause-moves
returns-in-Answered-clause-moves g c =
    let engine = engine_over g.S.Stated.says g.S.Stated.number c.args.plugins.now in
    rw c.keep_spare.ensures (answer_handed engine (invoke engine c.args.state.now c.args.invoked.callback c.args.invoked.call) _ c.invoke.new.state
    c.in-Answered.text c.args.stack.now (rw c.in-Answered.is at c.in_ok-went.ensures.invokes) (rw c.in-Answered.is at c.in_ok-went.ensures.may))

pub returns-in_ok-put_first-in-Waits-clause-moves : goal.returns-in_ok-put_first-in-Waits-clause-moves
returns-in_ok-put_first-in-Waits-clause-moves g c =
    let engine = engine_over g.S.Stated.says g.S.Stated.number c.args.plugins.now in
    invocation_waits engine (invoke engine c.args.state.now c.args.invoked.callback c.args.invoked.call) c.invoke.new.state c.in-Waits.invoked
    c.args.stack.now c.put_first.new.self (rw c.in-Waits.is at c.in_ok-went.ensures.invokes) c.in_ok-put_first-in-Waits.ensures.ok
