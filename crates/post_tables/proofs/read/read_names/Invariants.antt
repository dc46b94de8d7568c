use Rattle.std.proofs.Common.{◌≡◌, map, take}
use Rattle.post_tables.specs.Reading.{name_from}
use Rattle.post_tables.proofs.read.read_names.Given as goal

abbrev pub invariant-loop-row : goal.invariant-loop-row
invariant-loop-row l = l.names.items ≡ map name_from (take l.row-index l.rows)
