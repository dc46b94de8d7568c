use Rattle.std.proofs.Common.{◌≡◌, ◌++◌, string_bytes}
use Rattle.std.specs.Str.Iter.{chars_rest}
use Rattle.page_escapes.specs.Escapes.{html_escaped}
use Rattle.page_escapes.proofs.escape_html.Given as goal

-- with what is left, escaped, it is the whole text
abbrev pub invariant-loop-character : goal.invariant-loop-character
invariant-loop-character l = string_bytes l.escaped ++ html_escaped (chars_rest l.character-iterator) ≡ html_escaped l.text
