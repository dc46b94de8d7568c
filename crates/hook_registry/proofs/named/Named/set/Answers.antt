use Rattle.std.proofs.Common.{◌∙◌, ap}
use Rattle.hook_registry.proofs.NamedValues.{pairs, insert_entry-pairs}
use Rattle.hook_registry.proofs.named.Named.set.Goals as goal

pub returns-clause-ok : goal.returns-clause-ok
returns-clause-ok g c =
    rw (← c.self.view_is, ← c.in_ok-name.ensures.ok) (ap pairs c.in_ok-insert.ensures.entries
    ∙ insert_entry-pairs c.self.inside.values.entries c.in_ok-name.name c.args.value)
