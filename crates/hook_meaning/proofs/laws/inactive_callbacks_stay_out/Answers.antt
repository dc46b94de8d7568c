use Rattle.hook_meaning.proofs.Registered.{names-loaded}
use Rattle.hook_meaning.proofs.Throughout.{names-filtered, names-acted, names-replaced}
use Rattle.hook_meaning.proofs.laws.inactive_callbacks_stay_out.Goals as goal

pub returns-clause-loaded : goal.returns-clause-loaded
returns-clause-loaded c = names-loaded

pub returns-clause-filtered : goal.returns-clause-filtered
returns-clause-filtered c = names-filtered

pub returns-clause-acted : goal.returns-clause-acted
returns-clause-acted c = names-acted

pub returns-clause-replaced : goal.returns-clause-replaced
returns-clause-replaced c = names-replaced
