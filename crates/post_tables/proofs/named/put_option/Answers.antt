use Rattle.std.proofs.Common.{[], ◌∷◌}
use Rattle.std.specs.FinMap.{insert}
use Rattle.sqlite_value.specs.declared.value.Value.TheVariants.{Text}
use Rattle.sqlite.proofs.Callers.{memory_is_clean}
use Rattle.post_tables.proofs.Statements.{makes}
use Rattle.post_tables.proofs.NamedSteps.{put_option_text, puts_option}
use Rattle.post_tables.proofs.named.put_option.Goals as goal

pub returns : goal.returns
returns c =
    let end = c.execute.new.self in
    makes (λ s. record s { options = insert s.options c.args.name.now c.args.value.now }) c.args.conn.now end put_option_text
    (Text c.args.name.now ∷ Text c.args.value.now ∷ []) c.requires c.execute.ensures.survives.limit
    (λ count. puts_option c.args.conn.now end c.requires.holds count c.args.name.now c.utf8.name c.args.value.now c.utf8.value) c.execute.result
    (rw (c.params-to_sql.ensures, c.params-to_sql-2.ensures) at (c.execute.ensures.runs (memory_is_clean end)))
