-- Which names take part in a pass (Shortcode API, do_shortcode: the names that the text opens).
-- Bytes: `[` is 91, `<` is 60, `=` is 61, `>` is 62, `&` is 38, `/` is 47, `]` is 93.
use Rattle.std.specs.Prelude.{◌≡◌, ℕ, ◌+◌, Bool, ◌&&◌, ◌||◌, ◌==◌, nat_le, List, ◌++◌, length, slice_index, filter, is_some, bytes_eq, codes}
use Rattle.std.specs.List.{list_any}
use Rattle.memchr.specs.Find.{occurs_at}
use Rattle.shortcode_scan.specs.Places.{first_place}

-- whether a byte after a name ends it: one of `<`, `>`, `&`, `/`, `[`, `]`, `=`, or one up to the space (do_shortcode)
abbrev pub ends_name : ℕ → Bool
ends_name b = nat_le b 32 || b == 60 || b == 62 || b == 38 || b == 47 || b == 91 || b == 93 || b == 61

-- whether the text ends at place e, or has a byte there that ends a name (do_shortcode)
abbrev pub is_name_end : List ℕ → ℕ → Bool
is_name_end text e = nat_le (length text) e || ends_name (slice_index text e)

-- `[` and the name (do_shortcode)
abbrev pub opening_of : List ℕ → List ℕ
opening_of name = codes "[" ++ name

-- whether this opening, `[` and a name, is at place k, and the name ends after it (do_shortcode)
abbrev pub opens_at : List ℕ → List ℕ → ℕ → Bool
opens_at text opening k = occurs_at text opening k && is_name_end text (k + length opening)

-- whether the text has this opening somewhere (do_shortcode)
unfoldable pub has_opening : List ℕ → List ℕ → Bool
has_opening text opening = is_some (first_place (opens_at text opening) 0 (length text))

-- whether the name is opened in the text (do_shortcode)
abbrev pub is_live : List ℕ → List ℕ → Bool
is_live text name = has_opening text (opening_of name)

-- the live names, in their order (do_shortcode)
abbrev pub live : List (List ℕ) → List ℕ → List (List ℕ)
live names text = filter (is_live text) names

-- whether the name is one of these
abbrev pub is_one_of : List (List ℕ) → List ℕ → Bool
is_one_of names name = list_any (bytes_eq name) names

-- both have the same names, in any order and any number of times
abbrev pub AreSameNames : List (List ℕ) → List (List ℕ) → Type 0
AreSameNames names others = (name : List ℕ) → is_one_of names name ≡ is_one_of others name
