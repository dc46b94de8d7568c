use Rattle.sqlite.proofs.Callers.{memory_is_clean}
use Rattle.post_tables.proofs.Statements.{reads}
use Rattle.post_tables.proofs.Refusing.{read_stopped}
use Rattle.post_tables.proofs.Finding.{find_text, find_plain, find_safe, id_given, found}
use Rattle.post_tables.proofs.posts.id_rows.Goals as goal

pub returns-clause-reads : goal.returns-clause-reads
returns-clause-reads c =
    let end = c.query_all.new.self in
    let clean = memory_is_clean end in
    reads find_text find_plain (id_given c.args.id) c.args.conn.now end c.requires c.query_all.ensures.survives.limit c.query_all.result
    (rw (c.params-to_sql.ensures) at (c.query_all.ensures.ok clean)) (rw (c.params-to_sql.ensures) at (c.query_all.ensures.err clean))

pub returns-clause-found : goal.returns-clause-found
returns-clause-found c = found c.args.conn.now c.query_all.new.self c.args.id c.requires.holds c.query_all.result
    (rw (c.params-to_sql.ensures) at (c.query_all.ensures.ok (memory_is_clean c.query_all.new.self)))

pub returns-clause-stopped : goal.returns-clause-stopped
returns-clause-stopped c = read_stopped c.args.conn.now c.query_all.new.self find_text (id_given c.args.id) (find_safe c.args.id) c.requires
    c.query_all.result (rw (c.params-to_sql.ensures) at (c.query_all.ensures.err (memory_is_clean c.query_all.new.self)))
