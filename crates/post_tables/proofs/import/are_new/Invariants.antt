use Rattle.std.proofs.Common.{◌≡◌, ◌&&◌, drop}
use Rattle.post_tables.specs.Rows.{are_new}
use Rattle.post_tables.specs.Stored.{Reads, rows_of}
use Rattle.post_tables.proofs.NewIds.{none_met}
use Rattle.post_tables.proofs.import.are_new.Given as goal

abbrev pub invariant-loop-post : goal.invariant-loop-post
invariant-loop-post l = record {
  reads : Reads l.fn.conn l.conn;
  rest : (none_met l.met.keys (drop l.post-index l.posts) && are_new (drop l.post-index l.posts) (rows_of l.fn.conn).posts)
      ≡ are_new l.posts (rows_of l.fn.conn).posts;
}
