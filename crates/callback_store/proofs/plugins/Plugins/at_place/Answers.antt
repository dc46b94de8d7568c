use Rattle.std.proofs.Common.{sym, ◌∙◌, ap, ◌==◌}
use Rattle.callback_store.proofs.Owners.{held_at}
use Rattle.callback_store.proofs.plugins.Plugins.at_place.Goals as goal

pub returns-then-eq-clause-held : goal.returns-then-eq-clause-held
returns-then-eq-clause-held g c =
    held_at g.S.Stated.number c.args.id c.args.self.now.list c.in_ok-place.place.plugin c.in_ok-place.place.callback c.in_ok-plugin_at.field-0.now
    c.in_ok-callback.callback.now
    (sym (c.in_ok-plugin_at.ensures)) (sym (c.in_ok-callback.ensures))
    (ap (λ n. n == c.args.id) (sym c.id.ensures) ∙ sym (c.if-eq.ensures))
