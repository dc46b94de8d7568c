use Rattle.std.proofs.Common.{◌≡◌, take}
use Rattle.std.specs.List.{flat_map}
use Rattle.post_tables.specs.Kept.{AreStored}
use Rattle.post_tables.specs.Stored.{Reads, rows_of}
use Rattle.post_tables.proofs.PartIds.{found_of}
use Rattle.post_tables.proofs.listing.posts_with.Given as goal

abbrev pub invariant-loop-id : goal.invariant-loop-id
invariant-loop-id l = record {
  reads : Reads l.fn.conn l.conn;
  posts : l.posts.items ≡ flat_map (found_of (rows_of l.fn.conn).posts) (take l.id-index l.ids);
  stored : AreStored l.kept (rows_of l.fn.conn).posts;
}
