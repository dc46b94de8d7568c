use Rattle.std.proofs.Common.{None}
use Rattle.site_store.specs.Kept.{KeepsUp}
use Rattle.site_store.proofs.Keeping.{left, without_templates, template-up}
use Rattle.site_store.proofs.stored.SiteStore.set_template.Goals as goal

-- templates alone were changed
pub invariant_of-self : goal.invariant_of-self
invariant_of-self c =
    let kept = c.self.inside in
    left (λ rows. KeepsUp rows kept.options None kept.active kept.found) _ _ _ _ c.set_template.ensures.ok c.set_template.ensures.err
    (without_templates _ _ _ _ _ c.self.invariant) (template-up _ _ _ _ _ c.self.invariant _ _)
