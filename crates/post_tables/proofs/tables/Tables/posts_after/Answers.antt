use Rattle.std.proofs.Common.{rules}
use Rattle.post_tables.proofs.tables.Tables.posts_after.Goals as goal

pub returns-clause-ok : goal.returns-clause-ok
returns-clause-ok c = search rules
