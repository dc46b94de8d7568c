use Rattle.std.proofs.Common.{◌∙◌, ap, sym, Some}
use Rattle.hook_registry.proofs.NamedValues.{name-at}
use Rattle.hook_registry.proofs.named.Named.name_at.Goals as goal

pub returns : goal.returns
returns g c =
    rw (← c.self.view_is) (name-at c.self.inside.values.entries c.args.at c.in-Some.name.now c.in-Some.field-0-1.now c.in-Some.ensures.entry
    ∙ ap Some (sym c.as_str.ensures.value))
