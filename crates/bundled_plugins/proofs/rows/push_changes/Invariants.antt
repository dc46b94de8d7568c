use Rattle.std.proofs.Common.{◌≡◌, ◌++◌, map, take}
use Rattle.bundled_plugins.specs.Rows.{change_of}
use Rattle.bundled_plugins.proofs.rows.push_changes.Given as goal

-- the changes are followed by those of the rows so far
abbrev pub invariant-loop-row : goal.invariant-loop-row
invariant-loop-row l = l.changes ≡ l.initial.changes ++ map change_of (take l.row-index l.rows)
