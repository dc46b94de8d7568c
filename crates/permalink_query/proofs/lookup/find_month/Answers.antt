use Rattle.std.proofs.Common.{rules}
use Rattle.permalink_query.proofs.lookup.find_month.Goals as goal

pub returns-clause-ok : goal.returns-clause-ok
returns-clause-ok c = search rules
