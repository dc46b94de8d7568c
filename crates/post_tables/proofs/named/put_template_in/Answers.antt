use Rattle.std.proofs.Common.{[], ◌∷◌}
use Rattle.std.specs.FinMap.{insert}
use Rattle.sqlite_value.specs.declared.value.Value.TheVariants.{Text}
use Rattle.sqlite.proofs.Callers.{memory_is_clean}
use Rattle.post_tables.proofs.Statements.{makes_inside}
use Rattle.post_tables.proofs.NamedSteps.{put_template_text, puts_template}
use Rattle.post_tables.proofs.named.put_template_in.Goals as goal

pub returns : goal.returns
returns c =
    let begin = c.args.tx.now in
    let end = c.execute.new.self in
    makes_inside (λ s. record s { templates = insert s.templates c.args.name.now c.args.text.now }) begin end put_template_text
    (Text c.args.name.now ∷ Text c.args.text.now ∷ []) c.requires c.execute.ensures.same_reference c.execute.ensures.survives.limit
    (λ count. puts_template begin.conn.now end.conn.now c.requires.holds count c.args.name.now c.utf8.name c.args.text.now c.utf8.text) c.execute.result
    (rw (c.params-to_sql.ensures, c.params-to_sql-2.ensures) at (c.execute.ensures.runs (memory_is_clean end.conn.now) c.requires.inside))
