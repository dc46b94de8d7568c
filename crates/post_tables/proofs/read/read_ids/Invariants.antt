use Rattle.std.proofs.Common.{◌≡◌, map, take}
use Rattle.sqlite_rules.specs.Edit.{id_in}
use Rattle.sqlite_value.specs.Order.{column}
use Rattle.post_tables.specs.Stored.{magnitude}
use Rattle.post_tables.proofs.read.read_ids.Given as goal

abbrev pub invariant-loop-row : goal.invariant-loop-row
invariant-loop-row l = l.ids.items ≡ map (λ r. magnitude (id_in (column r 0))) (take l.row-index l.rows)
