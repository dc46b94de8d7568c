use Rattle.std.proofs.Common.{◌≡◌, drop}
use Rattle.sqlite.specs.Held.{state}
use Rattle.sqlite.specs.Steps.{over_memory}
use Rattle.post_tables.specs.Rows.{with_active}
use Rattle.post_tables.specs.Stored.{IsOpen, rows_of}
use Rattle.post_tables.proofs.import.add_active.Given as goal

abbrev pub invariant-loop-name : goal.invariant-loop-name
invariant-loop-name l = record {
  same_reference : l.tx.conn.ghost_name ≡ l.fn.tx.conn.ghost_name;
  is_open : IsOpen l.tx;
  limit : l.tx.conn.now.step_limit ≡ l.fn.tx.conn.now.step_limit;
  committed : (state over_memory l.tx.conn.now).committed ≡ (state over_memory l.fn.tx.conn.now).committed;
  rest : with_active (drop l.name-index l.names) (rows_of l.tx.conn.now) ≡ with_active l.names (rows_of l.fn.tx.conn.now);
}
