use Rattle.sqlite.proofs.Callers.{memory_is_clean}
use Rattle.post_tables.proofs.Statements.{reads}
use Rattle.post_tables.proofs.Refusing.{read_stopped}
use Rattle.post_tables.proofs.PageLemmas.{page_safe, page_readable, page_text, page_plain, page_rows, params}
use Rattle.post_tables.proofs.posts.page_rows.Goals as goal

pub returns-clause-reads : goal.returns-clause-reads
returns-clause-reads c =
    let end = c.query_all.new.self in
    let clean = memory_is_clean end in
    reads page_text page_plain (params c.args.kind c.args.from.now c.args.to.now c.args.limit c.args.offset) c.args.conn.now end c.requires
    c.query_all.ensures.survives.limit c.query_all.result
    (rw (
      c.params-to_sql.ensures,
      c.params-to_sql-2.ensures,
      c.params-to_sql-3.ensures,
      c.params-to_sql-4.ensures,
      c.params-to_sql-5.ensures,
      c.kind_text.ensures,
      c.as_str.ensures.text,
      c.as_str-2.ensures.text,
    ) at (c.query_all.ensures.ok clean))
    (rw (
      c.params-to_sql.ensures,
      c.params-to_sql-2.ensures,
      c.params-to_sql-3.ensures,
      c.params-to_sql-4.ensures,
      c.params-to_sql-5.ensures,
      c.kind_text.ensures,
      c.as_str.ensures.text,
      c.as_str-2.ensures.text,
    ) at (c.query_all.ensures.err clean))

pub returns-clause-rows : goal.returns-clause-rows
returns-clause-rows c =
    page_rows c.args.conn.now c.query_all.new.self c.args.kind c.args.from.now c.args.to.now c.args.limit c.args.offset c.query_all.result c.requires
    (rw (
      c.params-to_sql.ensures,
      c.params-to_sql-2.ensures,
      c.params-to_sql-3.ensures,
      c.params-to_sql-4.ensures,
      c.params-to_sql-5.ensures,
      c.kind_text.ensures,
      c.as_str.ensures.text,
      c.as_str-2.ensures.text,
    ) at (c.query_all.ensures.ok (memory_is_clean c.query_all.new.self)))

pub returns-clause-readable : goal.returns-clause-readable
returns-clause-readable c =
    page_readable c.args.conn.now c.query_all.new.self c.args.kind c.args.from.now c.args.to.now c.args.limit c.args.offset c.query_all.result c.requires
    (rw (
      c.params-to_sql.ensures,
      c.params-to_sql-2.ensures,
      c.params-to_sql-3.ensures,
      c.params-to_sql-4.ensures,
      c.params-to_sql-5.ensures,
      c.kind_text.ensures,
      c.as_str.ensures.text,
      c.as_str-2.ensures.text,
    ) at (c.query_all.ensures.ok (memory_is_clean c.query_all.new.self)))

pub returns-clause-stopped : goal.returns-clause-stopped
returns-clause-stopped c =
    read_stopped c.args.conn.now c.query_all.new.self page_text (params c.args.kind c.args.from.now c.args.to.now c.args.limit c.args.offset)
    (page_safe c.args.kind c.args.from.now c.args.to.now c.args.limit c.args.offset) c.requires c.query_all.result
    (rw (
      c.params-to_sql.ensures,
      c.params-to_sql-2.ensures,
      c.params-to_sql-3.ensures,
      c.params-to_sql-4.ensures,
      c.params-to_sql-5.ensures,
      c.kind_text.ensures,
      c.as_str.ensures.text,
      c.as_str-2.ensures.text,
    ) at (c.query_all.ensures.err (memory_is_clean c.query_all.new.self)))
