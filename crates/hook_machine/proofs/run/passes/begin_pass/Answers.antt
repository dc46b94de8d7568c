use Rattle.hook_machine.specs.Outcomes.{engine_over}
use Rattle.hook_machine.proofs.Moving.{begin_moves}
use Rattle.hook_machine.proofs.run.passes.begin_pass.Goals as goal

pub returns-clause-moves : goal.returns-clause-moves
returns-clause-moves g c =
    begin_moves (engine_over g.S.Stated.says g.S.Stated.number c.args.plugins.now) c.args.state.now c.enter.new.self c.args.kind c.args.hook c.args.value
    c.args.args c.start.result c.args.stack.now c.in_ok-enter.ensures.ok c.start.ensures _ _ _
    (rw (c.in_ok-pass.ensures.pass, c.new_pass.ensures.same) at c.pass_turn.ensures.moves)
