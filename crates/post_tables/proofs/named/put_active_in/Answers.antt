use Rattle.std.proofs.Common.{[], ◌∷◌}
use Rattle.std.specs.FinMap.{insert}
use Rattle.sqlite_value.specs.declared.value.Value.TheVariants.{Text}
use Rattle.sqlite.proofs.Callers.{memory_is_clean}
use Rattle.post_tables.proofs.Statements.{makes_inside}
use Rattle.post_tables.proofs.NamedSteps.{put_active_text, puts_active}
use Rattle.post_tables.proofs.named.put_active_in.Goals as goal

pub returns : goal.returns
returns c =
    let begin = c.args.tx.now in
    let end = c.execute.new.self in
    makes_inside (λ s. record s { active = insert s.active c.args.name.now tt }) begin end put_active_text (Text c.args.name.now ∷ []) c.requires
    c.execute.ensures.same_reference c.execute.ensures.survives.limit
    (λ count. puts_active begin.conn.now end.conn.now c.requires.holds count c.args.name.now c.utf8.name) c.execute.result
    (rw (c.params-to_sql.ensures) at (c.execute.ensures.runs (memory_is_clean end.conn.now) c.requires.inside))
