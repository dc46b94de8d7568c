use Rattle.std.proofs.Common.{None}
use Rattle.site_store.specs.Kept.{KeepsUp}
use Rattle.site_store.proofs.Keeping.{left, without_active, active-up}
use Rattle.site_store.proofs.stored.SiteStore.set_active.Goals as goal

-- active names alone were changed
pub invariant_of-self : goal.invariant_of-self
invariant_of-self g c =
    let kept = c.self.inside in
    left (λ rows. KeepsUp rows kept.options kept.templates None kept.found) _ _ _ _ c.set_active.ensures.ok c.set_active.ensures.err
    (without_active _ _ _ _ _ c.self.invariant) (active-up _ _ _ _ _ c.self.invariant _ _ _)
