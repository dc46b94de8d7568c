use Rattle.hook_machine.proofs.Jobs.{turns-within}
use Rattle.hook_machine.proofs.laws.turns_within_calls.Goals as goal

pub returns : goal.returns
returns c = turns-within
