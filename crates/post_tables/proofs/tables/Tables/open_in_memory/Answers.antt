use Rattle.std.proofs.Common.{rules}
use Rattle.post_tables.proofs.tables.Tables.open_in_memory.Goals as goal

pub returns-clause-ok : goal.returns-clause-ok
returns-clause-ok c = search rules
