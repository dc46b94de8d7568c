use Rattle.hook_machine.specs.Outcomes.{engine_over}
use Rattle.hook_meaning.proofs.Ending.{none_of}
use Rattle.hook_machine.proofs.Going.{leads_here}
use Rattle.hook_machine.proofs.Moving.{nothing_left}
use Rattle.hook_machine.proofs.run.jobs.move_on.Goals as goal

pub returns-in-None-clause-moves : goal.returns-in-None-clause-moves
returns-in-None-clause-moves g c =
    record {
      leads = leads_here (nothing_left (engine_over g.S.Stated.says g.S.Stated.number c.args.plugins.now) c.args.state.now c.args.job c.args.stack.now
          c.take_first.new.self c.empty.result (none_of _ c.in_default.not-Some) c.in-None.ensures.0 c.in-None.ensures.1 c.empty.ensures);
    }
