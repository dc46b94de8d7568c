use Rattle.hook_registry.proofs.Hooks.{either}
use Rattle.hook_registry.proofs.TagNames.{are_tags-set}
use Rattle.hook_registry.proofs.registry.Registry.add_tag.Goals as goal

pub invariant_of-self : goal.invariant_of-self
invariant_of-self c =
    either c.set.result
    (λ e. rw e (are_tags-set c.self.inside.tags c.as_str.result.now c.args.callback (rw (← c.as_str.ensures.text) at c.as_str.ensures.name) c.self.invariant))
    (λ e. rw e c.self.invariant) c.set.ensures.ok c.set.ensures.err
