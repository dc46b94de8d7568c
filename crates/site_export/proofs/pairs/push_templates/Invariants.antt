use Rattle.std.proofs.Common.{◌≡◌, ◌++◌, map, take}
use Rattle.std.specs.String.{string_bytes}
use Rattle.site_export.specs.Lines.{template_line}
use Rattle.site_export.proofs.pairs.push_templates.Given as goal

abbrev pub invariant-loop-name : goal.invariant-loop-name
invariant-loop-name l = map string_bytes l.lines.items ≡ map string_bytes l.fn.lines.items ++ map template_line (take l.name-index l.templates)
