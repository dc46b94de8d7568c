use Rattle.hook_registry.proofs.CallbackSets.{inserted}
use Rattle.hook_registry.proofs.callbacks.Callbacks.insert.Goals as goal

pub returns : goal.returns
returns c = rw (← c.self.view_is) (inserted c.self.inside.numbers.value.keys c.insert.new.self.keys c.number.result c.args.callback c.number.ensures
    (rw c.deref_mut.ensures.value at c.in_ok-insert.ensures.updates.0))
