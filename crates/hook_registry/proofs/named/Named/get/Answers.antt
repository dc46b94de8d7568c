use Rattle.std.proofs.Common.{◌∙◌}
use Rattle.hook_registry.proofs.NamedValues.{lookup-pairs}
use Rattle.hook_registry.proofs.named.Named.get.Goals as goal

pub returns : goal.returns
returns g c = rw (← c.self.view_is) (c.copied.ensures ∙ c.get.ensures.value ∙ lookup-pairs c.args.name.now c.self.inside.values.entries)
