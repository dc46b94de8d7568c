use Rattle.std.proofs.Common.{◌≤◌, map, subst}
use Rattle.std.specs.Prelude.{All}
use Rattle.std.specs.List.Sorted.{IsStrictlySortedBy}
use Rattle.std.specs.Ordering.{nat_cmp}
use Rattle.post_tables.proofs.PartLemmas.{ids_rise, site_rises, site_given}
use Rattle.post_tables.proofs.tables.Tables.ids_occur_once.Goals as goal

pub returns-clause-once : goal.returns-clause-once
returns-clause-once c = subst (λ s. IsStrictlySortedBy nat_cmp (map (λ p. p.id) s.posts)) c.self.view_is
    (ids_rise _ (site_rises c.self.inside.conn c.self.invariant.0))

pub returns-clause-given : goal.returns-clause-given
returns-clause-given c = subst (λ s. All (λ p. p.id ≤ s.largest) s.posts) c.self.view_is (site_given c.self.inside.conn c.self.invariant.0)
