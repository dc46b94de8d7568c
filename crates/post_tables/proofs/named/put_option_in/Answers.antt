use Rattle.std.proofs.Common.{[], ◌∷◌}
use Rattle.std.specs.FinMap.{insert}
use Rattle.sqlite_value.specs.declared.value.Value.TheVariants.{Text}
use Rattle.sqlite.proofs.Callers.{memory_is_clean}
use Rattle.post_tables.proofs.Statements.{makes_inside}
use Rattle.post_tables.proofs.NamedSteps.{put_option_text, puts_option}
use Rattle.post_tables.proofs.named.put_option_in.Goals as goal

pub returns : goal.returns
returns c =
    let begin = c.args.tx.now in
    let end = c.execute.new.self in
    makes_inside (λ s. record s { options = insert s.options c.args.name.now c.args.value.now }) begin end put_option_text
    (Text c.args.name.now ∷ Text c.args.value.now ∷ []) c.requires c.execute.ensures.same_reference c.execute.ensures.survives.limit
    (λ count. puts_option begin.conn.now end.conn.now c.requires.holds count c.args.name.now c.utf8.name c.args.value.now c.utf8.value) c.execute.result
    (rw (c.params-to_sql.ensures, c.params-to_sql-2.ensures) at (c.execute.ensures.runs (memory_is_clean end.conn.now) c.requires.inside))
