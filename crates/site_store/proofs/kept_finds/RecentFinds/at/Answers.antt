use Rattle.std.proofs.Common.{◌∙◌, Some, ap}
use Rattle.site_store.proofs.Counts.{counted-promoted}
use Rattle.site_store.proofs.Recency.{finds-promoted, finds-lookup}
use Rattle.site_store.proofs.kept_finds.RecentFinds.at.Goals as goal
use Rattle.site_store.proofs.kept_finds.RecentFinds.at.Goals.{in-Some+in_ok-shared-in-Some, in-None}

-- the same finds are kept, and their order is that after a look-up
pub invariant_of-self : goal.invariant_of-self
invariant_of-self c = rw c.get.follows.holds-at-none (counted-promoted c.self.inside.finds c.self.inside.bytes c.self.invariant c.args.path.now)

pub returns-in_err-shared-in-Some-clause-order : goal.returns-in_err-shared-in-Some-clause-order
returns-in_err-shared-in-Some-clause-order c = rw (c.get.follows.holds-at-none, ← c.self.view_is) (finds-promoted c.args.path.now c.self.inside.finds.entries)

pub invariant_of-self-2 : goal.invariant_of-self-2
invariant_of-self-2 c = elim c.match-get.branch [
  | in-Some+in_ok-shared-in-Some w ↦ rw (w.self-inside-is, c.get.follows.holds-at-none) (counted-promoted c.self.inside.finds c.self.inside.bytes c.self.invariant c.args.path.now)
  | in-None w ↦ rw (w.self-inside-is, c.get.follows.holds-at-none) (counted-promoted c.self.inside.finds c.self.inside.bytes c.self.invariant c.args.path.now)
]

pub returns-clause-order : goal.returns-clause-order
returns-clause-order c = elim c.match-get.branch [
  | in-Some+in_ok-shared-in-Some w ↦ rw (w.self-inside-is, c.get.follows.holds-at-none, ← c.self.view_is) (finds-promoted c.args.path.now c.self.inside.finds.entries)
  | in-None w ↦ rw (w.self-inside-is, c.get.follows.holds-at-none, ← c.self.view_is) (finds-promoted c.args.path.now c.self.inside.finds.entries)
]

pub returns-clause-found : goal.returns-clause-found
returns-clause-found c =
    let kept = finds-lookup c.args.path.now c.self.inside.finds.entries in
    elim c.match-get.branch [
      | in-Some+in_ok-shared-in-Some w ↦ rw (w.result-is, ← c.self.view_is) (ap Some w.in_ok-shared-in-Some.ensures ∙ w.in-Some.ensures.value ∙ kept)
      | in-None w ↦ rw (w.result-is, ← c.self.view_is) (w.in-None.ensures.value ∙ kept)
    ]
