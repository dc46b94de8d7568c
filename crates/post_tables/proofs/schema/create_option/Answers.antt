use Rattle.sqlite.proofs.Callers.{memory_is_clean}
use Rattle.post_tables.proofs.Creating.{option_made}
use Rattle.post_tables.proofs.schema.create_option.Goals as goal

pub returns : goal.returns
returns c = option_made c.args.conn.now c.execute.new.self c.execute.ensures.survives.limit c.execute.result c.requires
    (c.execute.ensures.runs (memory_is_clean c.execute.new.self))
