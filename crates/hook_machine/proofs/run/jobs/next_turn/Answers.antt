use Rattle.hook_machine.specs.Outcomes.{engine_over}
use Rattle.hook_machine.specs.Jobs.{left_from}
use Rattle.hook_machine.specs.Moves.{still_left}
use Rattle.hook_machine.proofs.Going.{on_then}
use Rattle.hook_machine.proofs.run.jobs.next_turn.Goals as goal

pub returns-clause-turns : goal.returns-clause-turns
returns-clause-turns g c =
    let engine = engine_over g.S.Stated.says g.S.Stated.number c.args.plugins.now in
    on_then c.args.pace (left_from engine c.args.state.now c.args.job c.args.stack.now)
    (still_left engine c.in_ok-moved.moved c.move_on.new.state c.move_on.new.stack) _ c.hand_on.result c.in_ok-moved.ensures.moves.leads c.hand_on.ensures.turns
