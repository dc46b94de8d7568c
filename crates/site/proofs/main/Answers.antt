use Rattle.std.proofs.Common.{◌∙◌, ap, not}
use Rattle.site.proofs.Numbers.{one_more, where_true}
use Rattle.site.proofs.main.Goals as goal

-- one more callback was put after the others
pub loop-number-preserved : goal.loop-number-preserved
loop-number-preserved c =
    let pushed = where_true _ _ _ _ (c.is_err.ensures.negation ∙ ap not c.if-is_err.false) c.push.ensures.items in
    one_more (λ stored. stored.id) c.loop-number.callbacks.items c.push.new.self.items c.new-in-loop-number.result _ c.loop-number.number-index pushed
    (c.new-in-loop-number.ensures ∙ c.new-id.ensures) c.loop-number-test.true c.loop-number.invariant
