use Rattle.std.proofs.Common.{◌≡◌, drop}
use Rattle.sqlite.specs.Held.{state}
use Rattle.sqlite.specs.Steps.{over_memory}
use Rattle.post_tables.specs.Rows.{with_templates}
use Rattle.post_tables.specs.Stored.{IsOpen, rows_of}
use Rattle.post_tables.proofs.import.add_templates.Given as goal

abbrev pub invariant-loop-pair : goal.invariant-loop-pair
invariant-loop-pair l = record {
  same_reference : l.tx.conn.ghost_name ≡ l.fn.tx.conn.ghost_name;
  is_open : IsOpen l.tx;
  limit : l.tx.conn.now.step_limit ≡ l.fn.tx.conn.now.step_limit;
  committed : (state over_memory l.tx.conn.now).committed ≡ (state over_memory l.fn.tx.conn.now).committed;
  rest : with_templates (drop l.pair-index l.pairs) (rows_of l.tx.conn.now) ≡ with_templates l.pairs (rows_of l.fn.tx.conn.now);
}
