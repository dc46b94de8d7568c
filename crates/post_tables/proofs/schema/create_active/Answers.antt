use Rattle.sqlite.proofs.Callers.{memory_is_clean}
use Rattle.post_tables.proofs.Creating.{active_made}
use Rattle.post_tables.proofs.schema.create_active.Goals as goal

pub returns : goal.returns
returns c = active_made c.args.conn.now c.execute.new.self c.execute.ensures.survives.limit c.execute.result c.requires
    (c.execute.ensures.runs (memory_is_clean c.execute.new.self))
