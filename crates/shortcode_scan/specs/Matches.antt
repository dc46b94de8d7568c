-- Where a shortcode lies in a text (Shortcode API, get_shortcode_regex).
-- Bytes: `[` is 91, `]` is 93, `/` is 47.
use Rattle.std.specs.Prelude.{ℕ, ◌+◌, ◌-◌, Bool, ◌&&◌, ◌==◌, if◌then◌else◌, nat_lt, List, ◌++◌, length, drop, slice_index, take_while, bytes_eq, codes}
use Rattle.std.specs.Prelude.{Option, Some, None}
use Rattle.std.specs.List.{list_any}
use Rattle.memchr.specs.Find.{occurs_at}
use Rattle.plain_data.specs.Steps.{◌>>=◌, only_if}
use Rattle.plain_data.specs.NameByte.{is_name_byte}
use Rattle.shortcode_scan.specs.Places.{first_place}
use Rattle.shortcode_scan.specs.declared.Span.{Span}
use Rattle.shortcode_scan.specs.declared.matches.Core.{Core}
use Rattle.shortcode_scan.specs.declared.Piece.{Piece}
use Rattle.shortcode_scan.specs.declared.Piece.TheVariants.{Match}

-- the span from one place to another
abbrev pub span : ℕ → ℕ → Span
span start end = record { start = start; end = end }

-- the tag that closes a shortcode of this name: `[/name]` (get_shortcode_regex)
abbrev pub closing_tag : List ℕ → List ℕ
closing_tag name = codes "[/" ++ name ++ codes "]"

-- whether a second `[`, which escapes, follows the one at place i (get_shortcode_regex)
abbrev pub is_doubled : List ℕ → ℕ → Bool
is_doubled text i = slice_index text (i + 1) == 91

-- where the name begins: after the `[` at place i and an optional second one (get_shortcode_regex)
unfoldable pub name_start : List ℕ → ℕ → Option ℕ
name_start text i = only_if (slice_index text i == 91) (if is_doubled text i then i + 2 else i + 1)

-- the whole name at place j, the longest run of name bytes, if it is one of the names (get_shortcode_regex)
unfoldable pub name_at : List (List ℕ) → List ℕ → ℕ → Option (List ℕ)
name_at names text j = let run = take_while is_name_byte (drop j text) in only_if (list_any (λ n. bytes_eq n run) names) run

-- the first `]` from place e on, which ends the opening tag (get_shortcode_regex)
abbrev pub bracket_from : List ℕ → ℕ → Option ℕ
bracket_from text e = first_place (λ k. slice_index text k == 93) e (length text)

-- the first closing tag of the name from place e on: nested tags of one name are not counted (get_shortcode_regex)
abbrev pub closing_from : List ℕ → List ℕ → ℕ → Option ℕ
closing_from text name e = first_place (occurs_at text (closing_tag name)) e (length text)

-- A core is a match without its optional outer brackets: attributes, content, and where it ends.
-- A core with no content: the content's span lies at the core's end (self-closing and unclosed, get_shortcode_regex).
abbrev pub without_content : Span → ℕ → Core
without_content atts end = record { atts = atts; content = span end end; end = end }

-- attributes from e to r, and content up to the closing tag at k, if there is one (get_shortcode_regex)
abbrev pub with_closing : List ℕ → ℕ → ℕ → Option ℕ → Core
with_closing name e r None = without_content (span e r) (r + 1)
with_closing name e r (Some k) = record { atts = span e r; content = span (r + 1) k; end = k + length (closing_tag name) }

-- what follows the end e of the name, if the first `]` from there on is at r: a `/` right before it,
-- after the name, closes the shortcode and is no attribute text (get_shortcode_regex)
unfoldable pub core_of : List ℕ → List ℕ → ℕ → ℕ → Core
core_of text name e r =
    if nat_lt e r && slice_index text (r - 1) == 47 then without_content (span e (r - 1)) (r + 1)
    else with_closing name e r (closing_from text name (r + 1))

-- the match from place i on with this core: a `]` at the core's end belongs to it (get_shortcode_regex)
unfoldable pub with_extras : List ℕ → ℕ → Span → Core → Piece
with_extras text i name core =
    let closing = slice_index text core.end == 93 in
    Match (span i (if closing then core.end + 1 else core.end)) name core.atts core.content (is_doubled text i) closing

-- the match that begins at place i, if there is one (get_shortcode_regex)
unfoldable pub match_at : List (List ℕ) → List ℕ → ℕ → Option Piece
match_at names text i = do
  start ← name_start text i
  name ← name_at names text start
  r ← bracket_from text (start + length name)
  Some (with_extras text i (span start (start + length name)) (core_of text name (start + length name) r))
