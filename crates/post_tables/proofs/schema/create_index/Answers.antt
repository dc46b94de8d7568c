use Rattle.sqlite.proofs.Callers.{memory_is_clean}
use Rattle.post_tables.proofs.Creating.{index_made}
use Rattle.post_tables.proofs.schema.create_index.Goals as goal

pub returns-clause-site : goal.returns-clause-site
returns-clause-site c = (index_made c.args.conn.now c.execute.new.self c.execute.ensures.survives.limit c.execute.result c.requires
    (c.execute.ensures.runs (memory_is_clean c.execute.new.self))).site

pub returns-clause-empty : goal.returns-clause-empty
returns-clause-empty c = (index_made c.args.conn.now c.execute.new.self c.execute.ensures.survives.limit c.execute.result c.requires
    (c.execute.ensures.runs (memory_is_clean c.execute.new.self))).empty
