use Rattle.std.proofs.Common.{sym, ◌∙◌, ap, ◌==◌}
use Rattle.callback_store.proofs.Owners.{has_one_at}
use Rattle.callback_store.proofs.plugins.Plugin.has_at.Goals as goal

pub returns-in-Some : goal.returns-in-Some
returns-in-Some g c =
    λ h. has_one_at g.S.Stated.number c.args.id c.args.self.now c.args.place c.in-Some.callback.now (sym c.in-Some.ensures)
    (ap (λ n. n == c.args.id) (sym c.id.ensures) ∙ sym c.eq.ensures ∙ h)
