use Rattle.std.proofs.Common.{◌∙◌, ap}
use Rattle.std.specs.Prelude.{is_some}
use Rattle.hook_registry.proofs.NamedValues.{pairs, lookup-pairs, remove_entry-pairs}
use Rattle.hook_registry.proofs.named.Named.remove.Goals as goal

pub returns-clause-removed : goal.returns-clause-removed
returns-clause-removed g c = rw (← c.self.view_is) (ap pairs c.shift_remove.ensures.entries ∙ remove_entry-pairs c.args.name.now c.self.inside.values.entries)

pub returns-clause-there : goal.returns-clause-there
returns-clause-there g c =
    rw (← c.self.view_is) (c.is_some.ensures ∙ ap is_some (c.shift_remove.ensures.value ∙ lookup-pairs c.args.name.now c.self.inside.values.entries))
