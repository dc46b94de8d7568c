use Rattle.hook_meaning.proofs.Throughout.{depth-filtered, depth-acted, depth-replaced}
use Rattle.hook_meaning.proofs.laws.passes_keep_to_their_depth.Goals as goal

pub returns-clause-filtered : goal.returns-clause-filtered
returns-clause-filtered c = depth-filtered

pub returns-clause-acted : goal.returns-clause-acted
returns-clause-acted c = depth-acted

pub returns-clause-replaced : goal.returns-clause-replaced
returns-clause-replaced c = depth-replaced
