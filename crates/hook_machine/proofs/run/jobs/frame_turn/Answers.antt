use Rattle.hook_machine.specs.Outcomes.{engine_over}
use Rattle.hook_machine.proofs.Moving.{pass_first, invocation_first, text_first}
use Rattle.hook_machine.proofs.run.jobs.frame_turn.Goals as goal

pub returns-in-Pass-clause-moves : goal.returns-in-Pass-clause-moves
returns-in-Pass-clause-moves g c =
    rw c.in-Pass.is (pass_first (engine_over g.S.Stated.says g.S.Stated.number c.args.plugins.now) c.args.state.now c.in-Pass.pass c.args.stack.now _ _ _
    c.pass_turn.ensures.moves)

pub returns-in-Invocation-clause-moves : goal.returns-in-Invocation-clause-moves
returns-in-Invocation-clause-moves g c =
    rw c.in-Invocation.is (invocation_first (engine_over g.S.Stated.says g.S.Stated.number c.args.plugins.now) c.args.state.now c.in-Invocation.invoked
    c.args.stack.now _ _ _ c.invocation_turn.ensures.moves)

pub returns-in-Shortcodes-clause-moves : goal.returns-in-Shortcodes-clause-moves
returns-in-Shortcodes-clause-moves g c =
    rw c.in-Shortcodes.is (text_first (engine_over g.S.Stated.says g.S.Stated.number c.args.plugins.now) c.args.state.now c.in-Shortcodes.pass
    c.args.stack.now _ _ _ c.text_turn.ensures.moves)
