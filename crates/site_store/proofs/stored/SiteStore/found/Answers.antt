use Rattle.std.proofs.Common.{◌≡◌, rules}
use Rattle.std.specs.FinMap.{entries_sorted}
use Rattle.site_records.specs.Sorted.{AreSorted}
use Rattle.site_store.specs.Stored.{found_by}
use Rattle.site_store.proofs.Keeping.{found-up}
use Rattle.site_store.proofs.stored.SiteStore.found.Goals as goal

-- the rows hold the options in ascending order of their names
pub found_by-requires : goal.found_by-requires
found_by-requires c =
    let sorted : AreSorted c.args.options.now = rw c.requires (entries_sorted c.args.self.now.options) in
    search (rules, sorted)

-- of the path what it finds is kept, or nothing more
pub invariant_of-self-2 : goal.invariant_of-self-2
invariant_of-self-2 c =
    let is : c.in_ok-found-3.found ≡ found_by c.self.inside.tables c.args.path.now = search rules in
    rw c.found_by.ensures.same (found-up _ _ _ _ _ c.self.invariant c.keep.new.self c.args.path.now c.in_ok-found-3.found is c.keep.ensures)
