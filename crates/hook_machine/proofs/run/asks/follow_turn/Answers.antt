use Rattle.hook_machine.specs.Outcomes.{engine_over}
use Rattle.hook_machine.proofs.Steps.{answer_goes}
use Rattle.hook_machine.proofs.Moving.{handed_moves}
use Rattle.hook_changes.specs.declared.reply.Then.TheVariants as next
use Rattle.hook_machine.specs.declared.run.frames.Pending.TheVariants.{Next}
use Rattle.hook_machine.specs.Rest.{pending_left}
use Rattle.hook_machine.proofs.run.asks.follow_turn.Goals as goal

pub returns-in-Answer-clause-moves : goal.returns-in-Answer-clause-moves
returns-in-Answer-clause-moves g c =
    rw (c.in-Answer.is, c.keep_spare.ensures) (handed_moves (engine_over g.S.Stated.says g.S.Stated.number c.args.plugins.now)
    (pending_left (engine_over g.S.Stated.says g.S.Stated.number c.args.plugins.now) c.args.state.now c.args.invoked.callback c.args.invoked.call
    (Next (next.Answer c.in-Answer.text))) c.args.state.now c.in-Answer.text c.args.stack.now
    (answer_goes (engine_over g.S.Stated.says g.S.Stated.number c.args.plugins.now) c.args.state.now c.args.invoked.callback c.args.invoked.call
    c.in-Answer.text))
