-- What a cache keeps.
use Rattle.std.specs.Prelude.{◌≡◌, ℕ, List, Contains, String, string_bytes, IfSome}
use Rattle.shortcode_scan.specs.Pieces.{pieces_of}
use Rattle.content_cache.specs.declared.cut_text.CutText.{CutText}
use Rattle.content_cache.specs.Opened.{IsCutOf}

-- the pieces are those of the text, by the live names kept with them, and by the names that it opens if these are kept
abbrev pub IsKeptOf : List ℕ → CutText → Type 0
IsKeptOf text kept = (kept.pieces ≡ pieces_of kept.live text) × IfSome kept.opened (λ opened. IsCutOf text opened kept.pieces)

module _ {A : Type 0} where
  abbrev pub IsKept : String A × CutText → Type 0
  IsKept e = IsKeptOf (string_bytes e.0) e.1

  abbrev pub AllKept : List (String A × CutText) → Type 0
  AllKept entries = (e : String A × CutText) → Contains entries e → IsKept e
