-- What a scan knows of places ahead.
use Rattle.std.specs.Prelude.{◌≡◌, ℕ, ◌<◌, List, [], None, false, length, map, bytes_eq, slice_index_or}
use Rattle.std.specs.List.{list_any}
use Rattle.memchr.specs.Find.{occurs_at}
use Rattle.shortcode_scan.specs.declared.ahead.Lookahead.{Lookahead}
use Rattle.shortcode_scan.specs.declared.ahead.Memory.{Memory}
use Rattle.shortcode_scan.specs.Places.{first_place}
use Rattle.shortcode_scan.specs.Matches.{bracket_from, closing_tag}

-- what is known of the places of a tag is true of the text
abbrev pub IsAheadOf : List ℕ → List ℕ → Lookahead → Type 0
IsAheadOf text tag a = a.next ≡ first_place (occurs_at text tag) a.from (length text)

-- what is known before a search: nothing begins at the text's end
abbrev pub nothing_searched : List ℕ → Lookahead
nothing_searched text = record { from = length text; next = None }

-- none of the names is empty
abbrev pub IsNamed : List (List ℕ) → Type 0
IsNamed names = list_any (λ n. bytes_eq n []) names ≡ false

-- what a memory says is true of the names and of the text
pub record Knows (names : List (List ℕ)) (text : List ℕ) (m : Memory) : Type 0 where
  pub named : IsNamed names
  pub bracket : m.bracket.next ≡ bracket_from text m.bracket.from
  pub tags : m.tags.items ≡ map closing_tag names
  pub count : length m.closings.items ≡ length names
  pub closings : (k : ℕ) (n : List ℕ) (a : Lookahead) → k < length names
      → IsAheadOf text (closing_tag (slice_index_or names k n)) (slice_index_or m.closings.items k a)
