use Rattle.std.proofs.Common.{ap}
use Rattle.hook_registry.specs.Entries.{is_among}
use Rattle.hook_registry.proofs.CallbackSets.{read_more, all_read}
use Rattle.hook_registry.proofs.callbacks.Callbacks.of.Goals as goal

pub loop-entry-init : goal.loop-entry-init
loop-entry-init c = λ q. ap (λ keys. is_among keys q) c.in_ok-numbers.ensures.empty

pub loop-entry-preserved : goal.loop-entry-preserved
loop-entry-preserved c = λ q.
    read_more c.loop-entry.numbers.keys c.insert.new.self.keys c.number.result q c.args.entries.now c.loop-entry.entry-index c.entry-item.result
    c.loop-entry-test.true c.entry-item.is c.number.ensures (c.loop-entry.invariant q) (c.in_ok-insert.ensures.updates.0 q)

pub returns : goal.returns
returns c = rw c.in_ok-new.ensures.ok (all_read c.loop-entry.numbers.keys c.args.entries.now c.loop-entry.entry-index c.loop-entry-test.false c.loop-entry.auto.entry-index-end
    c.loop-entry.invariant)
