use Rattle.std.proofs.Common.{[], ◌∷◌}
use Rattle.std.specs.FinMap.{remove}
use Rattle.sqlite_value.specs.declared.value.Value.TheVariants.{Text}
use Rattle.sqlite.proofs.Callers.{memory_is_clean}
use Rattle.post_tables.proofs.Statements.{makes}
use Rattle.post_tables.proofs.NamedSteps.{delete_template_text, deletes_template}
use Rattle.post_tables.proofs.named.delete_template.Goals as goal

pub returns : goal.returns
returns c =
    let end = c.execute.new.self in
    makes (λ s. record s { templates = remove s.templates c.args.name.now }) c.args.conn.now end delete_template_text (Text c.args.name.now ∷ []) c.requires
    c.execute.ensures.survives.limit
    (λ count. deletes_template c.args.conn.now end c.requires.holds count c.args.name.now c.utf8.name) c.execute.result
    (rw (c.params-to_sql.ensures) at (c.execute.ensures.runs (memory_is_clean end)))
