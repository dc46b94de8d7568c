use Rattle.std.proofs.Common.{◌≡◌, map, take}
use Rattle.post_tables.specs.Reading.{pair_from}
use Rattle.post_tables.proofs.read.read_pairs.Given as goal

abbrev pub invariant-loop-row : goal.invariant-loop-row
invariant-loop-row l = l.pairs.items ≡ map pair_from (take l.row-index l.rows)
