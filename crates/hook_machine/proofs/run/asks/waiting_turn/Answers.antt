use Rattle.std.proofs.Common.{sym, ◌∙◌}
use Rattle.hook_machine.specs.Outcomes.{engine_over}
use Rattle.hook_machine.proofs.Moving.{text_answered, nothing_handed, core_handed, others_handed}
use Rattle.hook_machine.proofs.run.asks.waiting_turn.Goals as goal

pub returns-in-ForText-clause-moves : goal.returns-in-ForText-clause-moves
returns-in-ForText-clause-moves g c =
    rw (sym c.take_pending.ensures.pending ∙ c.in-ForText.is) (text_answered (engine_over g.S.Stated.says g.S.Stated.number c.args.plugins.now)
    c.args.state.now c.rise.new.self c.args.invoked.callback c.args.invoked.call c.args.text c.args.stack.now c.rise.ensures _ _ _
    (rw c.take_pending.ensures.rest at c.invoke_again.ensures.moves))

pub returns-in-ForNothing-clause-moves : goal.returns-in-ForNothing-clause-moves
returns-in-ForNothing-clause-moves g c =
    rw (sym c.take_pending.ensures.pending ∙ c.in-ForNothing.is) (nothing_handed (engine_over g.S.Stated.says g.S.Stated.number c.args.plugins.now)
    c.args.state.now c.rise-in-ForNothing.new.self c.args.invoked.callback c.args.invoked.call c.args.text c.args.stack.now
    c.rise-in-ForNothing.ensures _ _ _ (rw c.take_pending.ensures.rest at c.invoke_again-in-ForNothing.ensures.moves))

pub returns-in-ForCore-clause-moves : goal.returns-in-ForCore-clause-moves
returns-in-ForCore-clause-moves g c =
    rw (sym c.take_pending.ensures.pending ∙ c.in-ForCore.is, c.keep_spare.ensures)
    (core_handed (engine_over g.S.Stated.says g.S.Stated.number c.args.plugins.now) c.args.state.now c.rise-in-ForCore.new.self
    c.args.invoked.callback c.args.invoked.call c.args.text c.args.stack.now c.rise-in-ForCore.ensures)

pub returns-in_default-clause-moves : goal.returns-in_default-clause-moves
returns-in_default-clause-moves g c =
    rw (sym c.take_pending.ensures.pending) (others_handed (engine_over g.S.Stated.says g.S.Stated.number c.args.plugins.now) c.args.state.now
    c.args.invoked.callback c.args.invoked.call c.take_pending.result c.args.text c.args.stack.now c.in_default.not-ForText
    c.in_default.not-ForNothing c.in_default.not-ForCore)
