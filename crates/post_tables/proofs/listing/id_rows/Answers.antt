use Rattle.sqlite.proofs.Callers.{memory_is_clean}
use Rattle.post_tables.proofs.Statements.{reads}
use Rattle.post_tables.proofs.Refusing.{read_stopped}
use Rattle.post_tables.proofs.PageLemmas.{params}
use Rattle.post_tables.proofs.PartIds.{ids_safe, ids_readable, ids_text, ids_plain, ids_rows}
use Rattle.post_tables.proofs.listing.id_rows.Goals as goal

pub returns-clause-reads : goal.returns-clause-reads
returns-clause-reads c =
    let end = c.query_all.new.self in
    let clean = memory_is_clean end in
    reads ids_text ids_plain (params c.args.kind c.args.from.now c.args.to.now c.args.limit c.args.offset) c.args.conn.now end c.requires
    c.query_all.ensures.survives.limit c.query_all.result
    (rw (
      c.params-to_sql.ensures,
      c.params-to_sql-2.ensures,
      c.params-to_sql-3.ensures,
      c.params-to_sql-4.ensures,
      c.params-to_sql-5.ensures,
      c.kind_text.ensures,
      c.as_str.ensures.text,
      c.as_str-2.ensures.text,
    ) at (c.query_all.ensures.ok clean))
    (rw (
      c.params-to_sql.ensures,
      c.params-to_sql-2.ensures,
      c.params-to_sql-3.ensures,
      c.params-to_sql-4.ensures,
      c.params-to_sql-5.ensures,
      c.kind_text.ensures,
      c.as_str.ensures.text,
      c.as_str-2.ensures.text,
    ) at (c.query_all.ensures.err clean))

pub returns-clause-ids : goal.returns-clause-ids
returns-clause-ids c =
    ids_rows c.args.conn.now c.query_all.new.self c.args.kind c.args.from.now c.args.to.now c.args.limit c.args.offset c.query_all.result c.requires
    (rw (
      c.params-to_sql.ensures,
      c.params-to_sql-2.ensures,
      c.params-to_sql-3.ensures,
      c.params-to_sql-4.ensures,
      c.params-to_sql-5.ensures,
      c.kind_text.ensures,
      c.as_str.ensures.text,
      c.as_str-2.ensures.text,
    ) at (c.query_all.ensures.ok (memory_is_clean c.query_all.new.self)))

pub returns-clause-readable : goal.returns-clause-readable
returns-clause-readable c =
    ids_readable c.args.conn.now c.query_all.new.self c.args.kind c.args.from.now c.args.to.now c.args.limit c.args.offset c.query_all.result c.requires
    (rw (
      c.params-to_sql.ensures,
      c.params-to_sql-2.ensures,
      c.params-to_sql-3.ensures,
      c.params-to_sql-4.ensures,
      c.params-to_sql-5.ensures,
      c.kind_text.ensures,
      c.as_str.ensures.text,
      c.as_str-2.ensures.text,
    ) at (c.query_all.ensures.ok (memory_is_clean c.query_all.new.self)))

pub returns-clause-stopped : goal.returns-clause-stopped
returns-clause-stopped c =
    read_stopped c.args.conn.now c.query_all.new.self ids_text (params c.args.kind c.args.from.now c.args.to.now c.args.limit c.args.offset)
    (ids_safe c.args.kind c.args.from.now c.args.to.now c.args.limit c.args.offset) c.requires c.query_all.result
    (rw (
      c.params-to_sql.ensures,
      c.params-to_sql-2.ensures,
      c.params-to_sql-3.ensures,
      c.params-to_sql-4.ensures,
      c.params-to_sql-5.ensures,
      c.kind_text.ensures,
      c.as_str.ensures.text,
      c.as_str-2.ensures.text,
    ) at (c.query_all.ensures.err (memory_is_clean c.query_all.new.self)))
