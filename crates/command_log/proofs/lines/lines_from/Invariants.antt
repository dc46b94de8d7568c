use Rattle.std.proofs.Common.{◌≡◌, map, take}
use Rattle.std.specs.String.{string_bytes}
use Rattle.command_log.specs.Lines.{text_in, place_after}
use Rattle.command_log.proofs.lines.lines_from.Given as goal

abbrev pub invariant-loop-row : goal.invariant-loop-row
invariant-loop-row l = record {
  lines : map string_bytes l.lines.items ≡ map text_in (take l.row-index l.rows);
  next : l.next ≡ place_after l.fn.place (take l.row-index l.rows);
}
