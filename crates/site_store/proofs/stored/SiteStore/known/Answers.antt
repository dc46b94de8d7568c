use Rattle.site_store.specs.Stored.{found_by}
use Rattle.site_store.proofs.Keeping.{looked-up}
use Rattle.site_store.proofs.UnderNames.{known_is}
use Rattle.site_store.proofs.stored.SiteStore.known.Goals as goal

-- a look-up changes the order alone
pub invariant_of-self : goal.invariant_of-self
invariant_of-self c = rw c.at.ensures.order (looked-up _ _ _ _ _ c.self.invariant c.args.path.now)

-- what is kept of a path is what it finds
pub returns-clause-found : goal.returns-clause-found
returns-clause-found c = rw (← c.self.view_is)
    (known_is (found_by c.self.inside.tables) c.self.inside.found c.args.path.now c.self.invariant.found c.at.result c.at.ensures.found)
