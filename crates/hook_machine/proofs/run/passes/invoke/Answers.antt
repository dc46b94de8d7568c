use Rattle.std.proofs.Common.{ap, sym, ◌∙◌}
use Rattle.std.proofs.lemmas.Result.{err_from_is_err_and}
use Rattle.hook_machine.specs.Outcomes.{engine_over}
use Rattle.hook_meaning.specs.Trace.{Turn}
use Rattle.hook_machine.specs.Moves.{made_by, went_left}
use Rattle.hook_machine.proofs.Steps.{turn_begun}
use Rattle.hook_machine.proofs.Going.{refused_invokes}
use Rattle.hook_machine.proofs.run.passes.invoke.Goals as goal

pub returns-in_err-take_call-clause-invokes : goal.returns-in_err-take_call-clause-invokes
returns-in_err-take_call-clause-invokes g c =
    let p = err_from_is_err_and c.from_residual.result c.from_residual.ensures.1 in
    rw (p.1, p.2) (refused_invokes (engine_over g.S.Stated.says g.S.Stated.number c.args.plugins.now) c.args.state.now c.args.invoked.callback
    c.args.invoked.call c.in_err-take_call.field-0.0 c.in_err-take_call.ensures.none c.in_err-take_call.ensures.fault _)

pub returns-clause-invokes : goal.returns-clause-invokes
returns-clause-invokes g c =
    let engine = engine_over g.S.Stated.says g.S.Stated.number c.args.plugins.now in
    turn_begun engine c.args.state.now c.take_call.new.self c.args.invoked.callback c.args.invoked.call (c.call_and_apply.new.state, c.in_ok-pending.pending)
    c.in_ok-take_call.ensures.left c.in_ok-take_call.ensures.ok c.in_ok-pending.ensures.ok
    ∙ ap (Turn (made_by c.call_and_apply.new.state c.args.invoked)) (c.went.ensures.left engine c.call_and_apply.new.state)
    ∙ ap (λ made. Turn made (went_left engine c.call_and_apply.new.state c.went.result)) (sym (c.went.ensures.made c.call_and_apply.new.state))
