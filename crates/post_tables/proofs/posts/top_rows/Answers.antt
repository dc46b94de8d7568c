use Rattle.std.proofs.Common.{[]}
use Rattle.sqlite.proofs.Callers.{memory_is_clean}
use Rattle.post_tables.proofs.Statements.{reads}
use Rattle.post_tables.proofs.Refusing.{read_stopped}
use Rattle.post_tables.proofs.TopLemmas.{top_readable, top_safe, top_text, top_plain, top_rows}
use Rattle.post_tables.proofs.posts.top_rows.Goals as goal

pub returns-clause-reads : goal.returns-clause-reads
returns-clause-reads c =
    let end = c.query_all.new.self in
    let clean = memory_is_clean end in
    reads top_text top_plain [] c.args.conn.now end c.requires c.query_all.ensures.survives.limit c.query_all.result (c.query_all.ensures.ok clean)
    (c.query_all.ensures.err clean)

pub returns-clause-rows : goal.returns-clause-rows
returns-clause-rows c = top_rows c.args.conn.now c.query_all.new.self c.query_all.result c.requires
    (c.query_all.ensures.ok (memory_is_clean c.query_all.new.self))

pub returns-clause-readable : goal.returns-clause-readable
returns-clause-readable c = top_readable c.args.conn.now c.query_all.new.self c.query_all.result c.requires
    (c.query_all.ensures.ok (memory_is_clean c.query_all.new.self))

pub returns-clause-stopped : goal.returns-clause-stopped
returns-clause-stopped c = read_stopped c.args.conn.now c.query_all.new.self top_text [] top_safe c.requires c.query_all.result
    (c.query_all.ensures.err (memory_is_clean c.query_all.new.self))
