use Rattle.hook_machine.proofs.Steps.{answer_goes}
use Rattle.hook_machine.proofs.run.passes.went.Goals as goal

pub returns-in-Next-Answer-clause-left : goal.returns-in-Next-Answer-clause-left
returns-in-Next-Answer-clause-left c =
    λ engine world. rw (c.in-Next-Answer.is, c.in-Next-Answer.field-0-is) (answer_goes engine world c.args.invoked.callback c.args.invoked.call
    c.in-Next-Answer.text)
