use Rattle.hook_machine.specs.Outcomes.{engine_over}
use Rattle.hook_machine.proofs.Moving.{pass_next, invocation_next, text_next}
use Rattle.hook_machine.proofs.run.jobs.result_turn.Goals as goal

pub returns-in-Pass-clause-moves : goal.returns-in-Pass-clause-moves
returns-in-Pass-clause-moves g c =
    rw c.in-Pass.is (pass_next (engine_over g.S.Stated.says g.S.Stated.number c.args.plugins.now) c.args.state.now c.in-Pass.pass c.hand.new.self
    c.args.text c.args.stack.now c.hand.ensures _ _ _ c.pass_turn.ensures.moves)

pub returns-in-Invocation-clause-moves : goal.returns-in-Invocation-clause-moves
returns-in-Invocation-clause-moves g c =
    rw c.in-Invocation.is (invocation_next (engine_over g.S.Stated.says g.S.Stated.number c.args.plugins.now) c.args.state.now c.in-Invocation.invoked
    c.args.text c.args.stack.now _ _ _ c.waiting_turn.ensures.moves)

pub returns-in-Shortcodes-clause-moves : goal.returns-in-Shortcodes-clause-moves
returns-in-Shortcodes-clause-moves g c =
    rw c.in-Shortcodes.is (text_next (engine_over g.S.Stated.says g.S.Stated.number c.args.plugins.now) c.args.state.now c.in-Shortcodes.pass c.args.text
    c.args.stack.now _ _ _ c.shown_turn.ensures.moves)
