use Rattle.std.proofs.Common.{◌≡◌, ◌++◌, map, take}
use Rattle.std.specs.String.{string_bytes}
use Rattle.site_export.specs.Lines.{option_line}
use Rattle.site_export.proofs.pairs.push_options.Given as goal

abbrev pub invariant-loop-name : goal.invariant-loop-name
invariant-loop-name l = map string_bytes l.lines.items ≡ map string_bytes l.fn.lines.items ++ map option_line (take l.name-index l.options)
