use Rattle.std.proofs.Common.{◌≡◌, ◌++◌, map, take}
use Rattle.std.specs.String.{string_bytes}
use Rattle.site_export.specs.Lines.{activate_line}
use Rattle.site_export.proofs.pairs.push_active.Given as goal

abbrev pub invariant-loop-plugin : goal.invariant-loop-plugin
invariant-loop-plugin l = map string_bytes l.lines.items ≡ map string_bytes l.fn.lines.items ++ map activate_line (take l.plugin-index l.plugins)
