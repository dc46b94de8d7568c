use Rattle.hook_registry.proofs.Adding.{still_shared}
use Rattle.hook_registry.proofs.CallbackSets.{removed_all}
use Rattle.hook_registry.proofs.entries.GroupEntries.remove.Goals as goal

pub invariant_of-self : goal.invariant_of-self
invariant_of-self c = (
  still_shared c.args.callback c.self.inside.shared c.without.result c.self.inside.own.items c.remove_from.new.entries.items c.self.invariant.0
      (rw c.take.ensures.value at c.without.ensures) c.remove_from.ensures,
  removed_all c.args.callback c.self.inside.callbacks c.without_callback.result c.self.inside.own.items c.remove_from.new.entries.items
      c.self.invariant.1 (rw c.take-2.ensures.value at c.without_callback.ensures) c.remove_from.ensures,
)
