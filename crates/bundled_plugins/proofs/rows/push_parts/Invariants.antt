use Rattle.std.proofs.Common.{◌≡◌, ◌++◌, take, string_bytes}
use Rattle.bundled_plugins.specs.Rows.{text_of}
use Rattle.bundled_plugins.proofs.rows.push_parts.Given as goal

-- the text is followed by the parts so far
abbrev pub invariant-loop-part : goal.invariant-loop-part
invariant-loop-part l = string_bytes l.text ≡ string_bytes l.initial.text ++ text_of l.call (take l.part-index l.parts)
