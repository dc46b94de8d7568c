use Rattle.std.proofs.Common.{◌==◌, ◌∙◌, sym, arith}
use Rattle.std.specs.List.{list_any}
use Rattle.callback_store.proofs.Walks.{find-here, find-more}
use Rattle.callback_store.proofs.plugins.Plugins.with_callback.Goals as goal

pub returns-then-has_callback : goal.returns-then-has_callback
returns-then-has_callback g c =
    sym
    (c.loop-plugin.invariant
    ∙ rw (← c.as_slice-plugin-items.ensures)
    (find-here (λ p. list_any (λ s. g.S.Stated.number s == c.args.id) p.callbacks) c.as_slice-plugin-items.result.now c.loop-plugin.plugin-index
    c.plugin-item.result c.plugin-item.result (omega arith) c.plugin-item.is
    (sym c.has_callback.ensures ∙ c.if-has_callback.true)))

pub loop-plugin-preserved : goal.loop-plugin-preserved
loop-plugin-preserved g c =
    c.loop-plugin.invariant
    ∙ rw (← c.as_slice-plugin-items.ensures)
    (find-more (λ p. list_any (λ s. g.S.Stated.number s == c.args.id) p.callbacks) c.as_slice-plugin-items.result.now c.loop-plugin.plugin-index
    c.plugin-item.result c.plugin-item.result (omega arith) c.plugin-item.is
    (sym c.has_callback.ensures ∙ c.if-has_callback.false))
