use Rattle.std.proofs.Common.{[]}
use Rattle.sqlite.proofs.Callers.{memory_is_clean}
use Rattle.post_tables.proofs.Statements.{reads}
use Rattle.post_tables.proofs.NamedTable.{options}
use Rattle.post_tables.proofs.NamedReading.{names_safe}
use Rattle.post_tables.proofs.Refusing.{read_stopped}
use Rattle.post_tables.proofs.NamedSteps.{options_readable, options_text, options_is, options_rows}
use Rattle.post_tables.proofs.named.option_rows.Goals as goal

pub returns-clause-reads : goal.returns-clause-reads
returns-clause-reads c =
    let end = c.query_all.new.self in
    let clean = memory_is_clean end in
    reads options_text options_is.plain [] c.args.conn.now end c.requires c.query_all.ensures.survives.limit c.query_all.result (c.query_all.ensures.ok clean)
    (c.query_all.ensures.err clean)

pub returns-clause-rows : goal.returns-clause-rows
returns-clause-rows c = options_rows c.args.conn.now c.query_all.new.self c.requires c.query_all.result
    (c.query_all.ensures.ok (memory_is_clean c.query_all.new.self))

pub returns-clause-readable : goal.returns-clause-readable
returns-clause-readable c = options_readable c.args.conn.now c.query_all.new.self c.requires c.query_all.result
    (c.query_all.ensures.ok (memory_is_clean c.query_all.new.self))

pub returns-clause-stopped : goal.returns-clause-stopped
returns-clause-stopped c = read_stopped c.args.conn.now c.query_all.new.self options_text [] (names_safe options options_text options_is) c.requires
    c.query_all.result (c.query_all.ensures.err (memory_is_clean c.query_all.new.self))
