use Rattle.std.proofs.Common.{[], refl}
use Rattle.hook_machine.specs.Outcomes.{engine_over}
use Rattle.hook_meaning.specs.Meaning.{invoke}
use Rattle.hook_machine.proofs.Moving.{text_back, text_begin}
use Rattle.hook_machine.proofs.run.texts.begin_text.Goals as goal

-- a text without shortcodes
pub returns-then-is_one_stretch-clause-moves : goal.returns-then-is_one_stretch-clause-moves
returns-then-is_one_stretch-clause-moves g c =
    let engine = engine_over g.S.Stated.says g.S.Stated.number c.args.plugins.now in
    text_back engine c.args.state.now c.args.text c.as_str.result.now c.in_ok-pieces.pieces c.args.stack.now c.as_str.ensures c.in_ok-pieces.ensures.pieces
    (rw (c.as_slice.ensures, c.as_str-2.ensures) at (c.is_one_stretch.ensures c.if-is_one_stretch.true (invoke engine) c.args.state.now))

pub returns-clause-moves : goal.returns-clause-moves
returns-clause-moves g c =
    text_begin (engine_over g.S.Stated.says g.S.Stated.number c.args.plugins.now) c.args.state.now c.args.text c.as_str.result.now []
    c.in_ok-pieces.pieces c.new.result c.args.stack.now c.as_str.ensures c.in_ok-pieces.ensures.pieces c.new.ensures refl _ _ _
    (rw c.in_ok-pass.ensures at c.text_turn.ensures.moves)
