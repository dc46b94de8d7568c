use Rattle.hook_meaning.proofs.Folding.{plain-fold}
use Rattle.hook_meaning.proofs.laws.plain_callbacks_fold.Goals as goal

pub returns : goal.returns
returns c = plain-fold
