use Rattle.hook_registry.proofs.CallbackSets.{taken}
use Rattle.hook_registry.proofs.callbacks.Callbacks.remove.Goals as goal

pub returns : goal.returns
returns c = rw (← c.self.view_is) (taken c.self.inside.numbers.value.keys c.remove.new.self.keys c.number.result c.args.callback c.number.ensures
    (rw c.deref_mut.ensures.value at c.remove.ensures.updates.0))
