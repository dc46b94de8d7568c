use Rattle.hook_meaning.proofs.Built.{table-changed, built-loaded, built-filtered, built-acted, built-replaced}
use Rattle.hook_meaning.proofs.laws.tables_are_built.Goals as goal

pub returns-clause-changed : goal.returns-clause-changed
returns-clause-changed c = table-changed

pub returns-clause-loaded : goal.returns-clause-loaded
returns-clause-loaded c = built-loaded

pub returns-clause-filtered : goal.returns-clause-filtered
returns-clause-filtered c = built-filtered

pub returns-clause-acted : goal.returns-clause-acted
returns-clause-acted c = built-acted

pub returns-clause-replaced : goal.returns-clause-replaced
returns-clause-replaced c = built-replaced
