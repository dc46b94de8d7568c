use Rattle.hook_meaning.specs.Meaning.{invoke}
use Rattle.hook_meaning.proofs.Giving.{action_gives, given_is}
use Rattle.hook_meaning.proofs.laws.actions_give_nothing.Goals as goal

pub returns : goal.returns
returns c engine world hook args later text e = given_is later text (action_gives (invoke engine) world hook args) e
