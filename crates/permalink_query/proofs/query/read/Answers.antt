use Rattle.std.proofs.Common.{rules}
use Rattle.permalink_query.proofs.query.read.Goals as goal

pub returns-in_default : goal.returns-in_default
returns-in_default c = search rules
