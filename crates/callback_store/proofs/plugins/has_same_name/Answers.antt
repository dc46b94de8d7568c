use Rattle.std.proofs.Common.{◌∙◌, sym, bytes_eq, arith}
use Rattle.callback_store.proofs.Repeats.{repeats-start, repeats-more_at}
use Rattle.callback_store.proofs.plugins.has_same_name.Goals as goal

pub loop-at-init : goal.loop-at-init
loop-at-init g c = repeats-start (λ p q. bytes_eq p.name q.name) c.args.list.now

pub loop-at-preserved : goal.loop-at-preserved
loop-at-preserved g c =
    c.loop-at.invariant
    ∙ repeats-more_at (λ p q. bytes_eq p.name q.name) c.args.list.now c.loop-at.at c.index-list-at.result c.index-list-at.result (omega arith)
    c.index-list-at.is
    (sym (rw c.as_str.ensures at c.is_named_before.ensures) ∙ c.if-is_named_before.false)
