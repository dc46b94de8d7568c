use Rattle.hook_meaning.proofs.Throughout.{calls-filtered, calls-acted, calls-replaced}
use Rattle.hook_meaning.proofs.laws.passes_keep_to_their_calls.Goals as goal

pub returns-clause-filtered : goal.returns-clause-filtered
returns-clause-filtered c = calls-filtered

pub returns-clause-acted : goal.returns-clause-acted
returns-clause-acted c = calls-acted

pub returns-clause-replaced : goal.returns-clause-replaced
returns-clause-replaced c = calls-replaced
