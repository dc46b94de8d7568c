use Rattle.std.proofs.Common.{[]}
use Rattle.site_store.specs.Kept.{KeepsUp}
use Rattle.site_store.proofs.Keeping.{left, without_found, edit-up}
use Rattle.site_store.proofs.stored.SiteStore.edit.Goals as goal

-- posts alone were changed, and what paths found is forgotten
pub invariant_of-self : goal.invariant_of-self
invariant_of-self c =
    let kept = c.self.inside in
    rw c.none.ensures (left (λ rows. KeepsUp rows kept.options kept.templates kept.active []) _ _ _ _ c.edit.ensures.ok c.edit.ensures.err
    (without_found _ _ _ _ _ c.self.invariant) (edit-up _ _ _ _ _ c.self.invariant _ _))
