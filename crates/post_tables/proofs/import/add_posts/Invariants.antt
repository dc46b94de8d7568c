use Rattle.std.proofs.Common.{◌≡◌, drop}
use Rattle.sqlite.specs.Held.{state}
use Rattle.sqlite.specs.Steps.{over_memory}
use Rattle.post_tables.specs.Rows.{with_all}
use Rattle.post_tables.specs.Stored.{IsOpen, rows_of}
use Rattle.post_tables.proofs.import.add_posts.Given as goal

abbrev pub invariant-loop-post : goal.invariant-loop-post
invariant-loop-post l = record {
  same_reference : l.tx.conn.ghost_name ≡ l.fn.tx.conn.ghost_name;
  is_open : IsOpen l.tx;
  limit : l.tx.conn.now.step_limit ≡ l.fn.tx.conn.now.step_limit;
  committed : (state over_memory l.tx.conn.now).committed ≡ (state over_memory l.fn.tx.conn.now).committed;
  rest : with_all (drop l.post-index l.posts) (rows_of l.tx.conn.now) ≡ with_all l.posts (rows_of l.fn.tx.conn.now);
}
