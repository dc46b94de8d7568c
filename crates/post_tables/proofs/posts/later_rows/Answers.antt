use Rattle.sqlite.proofs.Callers.{memory_is_clean}
use Rattle.post_tables.proofs.Statements.{reads}
use Rattle.post_tables.proofs.Refusing.{read_stopped}
use Rattle.post_tables.proofs.After.{after_safe, after_readable, after_text, after_plain, after_rows, params}
use Rattle.post_tables.proofs.posts.later_rows.Goals as goal

pub returns-clause-reads : goal.returns-clause-reads
returns-clause-reads c =
    let end = c.query_all.new.self in
    let clean = memory_is_clean end in
    reads after_text after_plain (params c.args.id c.args.limit) c.args.conn.now end c.requires c.query_all.ensures.survives.limit c.query_all.result
    (rw (c.params-to_sql.ensures, c.params-to_sql-2.ensures) at (c.query_all.ensures.ok clean))
    (rw (c.params-to_sql.ensures, c.params-to_sql-2.ensures) at (c.query_all.ensures.err clean))

pub returns-clause-rows : goal.returns-clause-rows
returns-clause-rows c = after_rows c.args.conn.now c.query_all.new.self c.args.id c.args.limit c.query_all.result c.requires
    (rw (c.params-to_sql.ensures, c.params-to_sql-2.ensures) at (c.query_all.ensures.ok (memory_is_clean c.query_all.new.self)))

pub returns-clause-readable : goal.returns-clause-readable
returns-clause-readable c = after_readable c.args.conn.now c.query_all.new.self c.args.id c.args.limit c.query_all.result c.requires
    (rw (c.params-to_sql.ensures, c.params-to_sql-2.ensures) at (c.query_all.ensures.ok (memory_is_clean c.query_all.new.self)))

pub returns-clause-stopped : goal.returns-clause-stopped
returns-clause-stopped c = read_stopped c.args.conn.now c.query_all.new.self after_text (params c.args.id c.args.limit)
    (after_safe c.args.id c.args.limit) c.requires c.query_all.result
    (rw (c.params-to_sql.ensures, c.params-to_sql-2.ensures) at (c.query_all.ensures.err (memory_is_clean c.query_all.new.self)))
