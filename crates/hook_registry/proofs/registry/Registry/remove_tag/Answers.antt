use Rattle.hook_registry.proofs.TagNames.{are_tags-remove}
use Rattle.hook_registry.proofs.registry.Registry.remove_tag.Goals as goal

pub invariant_of-self : goal.invariant_of-self
invariant_of-self c = rw c.remove.ensures.removed (are_tags-remove c.self.inside.tags c.args.tag.now c.self.invariant)
