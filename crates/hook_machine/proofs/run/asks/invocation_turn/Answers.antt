use Rattle.hook_machine.specs.Outcomes.{engine_over}
use Rattle.hook_machine.proofs.Moving.{waits_moves, others_wait}
use Rattle.hook_machine.proofs.run.asks.invocation_turn.Goals as goal

pub returns-in_default-clause-moves : goal.returns-in_default-clause-moves
returns-in_default-clause-moves g c =
    let engine = engine_over g.S.Stated.says g.S.Stated.number c.args.plugins.now in
    waits_moves engine c.args.state.now c.args.invoked.callback c.args.invoked.call c.empty.result c.args.stack.now c.args.invoked.pending
    (rw c.take_pending.ensures.pending at (others_wait engine c.args.state.now c.args.invoked.callback c.args.invoked.call c.take_pending.result
    c.in_default.not-Next c.in_default.not-Core)) c.empty.ensures
