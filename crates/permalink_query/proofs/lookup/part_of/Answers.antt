use Rattle.std.proofs.Common.{rules}
use Rattle.permalink_query.proofs.lookup.part_of.Goals as goal

-- the offset is that of the part
pub returns-clause-ok : goal.returns-clause-ok
returns-clause-ok c = search rules
