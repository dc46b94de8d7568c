use Rattle.hook_machine.specs.Outcomes.{engine_over}
use Rattle.hook_machine.proofs.Moving.{text_placed}
use Rattle.hook_machine.proofs.run.texts.shown_turn.Goals as goal

pub returns-in_ok-append-in-None-clause-moves : goal.returns-in_ok-append-in-None-clause-moves
returns-in_ok-append-in-None-clause-moves g c =
    text_placed (engine_over g.S.Stated.says g.S.Stated.number c.args.plugins.now) c.args.state.now c.args.pass c.append.new.self c.args.text
    c.args.stack.now c.in-None.ensures (rw c.as_str.ensures at c.in_ok-append-in-None.ensures) _ _ _ c.text_turn.ensures.moves
