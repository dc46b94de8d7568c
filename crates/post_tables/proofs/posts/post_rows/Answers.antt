use Rattle.sqlite.proofs.Callers.{memory_is_clean}
use Rattle.post_tables.proofs.Statements.{reads}
use Rattle.post_tables.proofs.Refusing.{read_stopped}
use Rattle.post_tables.proofs.Finding.{post_readable, post_safe, post_text, post_plain, post_rows, id_given}
use Rattle.post_tables.proofs.posts.post_rows.Goals as goal

pub returns-clause-reads : goal.returns-clause-reads
returns-clause-reads c =
    let end = c.query_all.new.self in
    let clean = memory_is_clean end in
    reads post_text post_plain (id_given c.args.id) c.args.conn.now end c.requires c.query_all.ensures.survives.limit c.query_all.result
    (rw (c.params-to_sql.ensures) at (c.query_all.ensures.ok clean)) (rw (c.params-to_sql.ensures) at (c.query_all.ensures.err clean))

pub returns-clause-rows : goal.returns-clause-rows
returns-clause-rows c = post_rows c.args.conn.now c.query_all.new.self c.requires.holds c.args.id c.query_all.result
    (rw (c.params-to_sql.ensures) at (c.query_all.ensures.ok (memory_is_clean c.query_all.new.self)))

pub returns-clause-readable : goal.returns-clause-readable
returns-clause-readable c = post_readable c.args.conn.now c.query_all.new.self c.requires.holds c.args.id c.query_all.result
    (rw (c.params-to_sql.ensures) at (c.query_all.ensures.ok (memory_is_clean c.query_all.new.self)))

pub returns-clause-stopped : goal.returns-clause-stopped
returns-clause-stopped c = read_stopped c.args.conn.now c.query_all.new.self post_text (id_given c.args.id) (post_safe c.args.id) c.requires
    c.query_all.result (rw (c.params-to_sql.ensures) at (c.query_all.ensures.err (memory_is_clean c.query_all.new.self)))
