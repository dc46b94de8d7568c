-- How the shortcodes of a text cut it into pieces (Shortcode API, do_shortcode: leftmost first, in one pass).
use Rattle.std.specs.Prelude.{◌≡◌, ℕ, zero, suc, ◌+◌, ◌<◌, ◌≤◌, if◌then◌else◌, nat_lt, List, [], ◌∷◌, ◌++◌, length, slice_range, flat_map, is_some, Option}
use Rattle.std.specs.Prelude.{Some, None}
use Rattle.std.specs.Option.{option_map_or}
use Rattle.plain_data.specs.Steps.{◌>>=◌}
use Rattle.shortcode_scan.specs.Places.{first_place}
use Rattle.shortcode_scan.specs.Matches.{span, match_at}
use Rattle.shortcode_scan.specs.declared.Span.{Span}
use Rattle.shortcode_scan.specs.declared.Piece.{Piece}
use Rattle.shortcode_scan.specs.declared.Piece.TheVariants.{Plain, Match}

-- the span of a piece, outer brackets included
abbrev pub whole_of : Piece → Span
whole_of (Plain s) = s
whole_of (Match whole name atts content opening closing) = whole

-- the place where a piece begins
abbrev pub start_of : Piece → ℕ
start_of (Plain s) = s.start
start_of (Match whole name atts content opening closing) = whole.start

-- the place where a piece ends
abbrev pub end_of : Piece → ℕ
end_of (Plain s) = s.end
end_of (Match whole name atts content opening closing) = whole.end

-- no match begins from i on and below j
abbrev pub NoMatch : List (List ℕ) → List ℕ → ℕ → ℕ → Type 0
NoMatch names text i j = (k : ℕ) → i ≤ k → k < j → match_at names text k ≡ None

-- what may follow a plain piece: a match, or nothing
abbrev pub BeginsNotPlain : List Piece → Type 0
BeginsNotPlain [] = Unit {0}
BeginsNotPlain (Plain s ∷ ps) = ⊥
BeginsNotPlain (Match whole name atts content opening closing ∷ ps) = Unit {0}

-- The pieces follow one another from place i to the end of the text. Each match is the one that begins there.
-- No match begins at any place of a plain piece, and no plain piece is empty or next to another (do_shortcode).
abbrev pub PiecesFrom : List (List ℕ) → List ℕ → ℕ → List Piece → Type 0
PiecesFrom names text i [] = i ≡ length text
PiecesFrom names text i (Plain s ∷ ps) =
    (s.start ≡ i) × (i < s.end) × NoMatch names text i s.end × BeginsNotPlain ps × PiecesFrom names text s.end ps
PiecesFrom names text i (Match whole name atts content opening closing ∷ ps) =
    (match_at names text i ≡ Some (Match whole name atts content opening closing)) × PiecesFrom names text whole.end ps

-- the pieces are those of the text (do_shortcode)
abbrev pub IsPieces : List (List ℕ) → List ℕ → List Piece → Type 0
IsPieces names text ps = PiecesFrom names text 0 ps

-- what the text shows at a piece
abbrev pub piece_text : List ℕ → Piece → List ℕ
piece_text text p = slice_range text (start_of p) (end_of p)

-- the pieces' texts, joined
abbrev pub pieces_text : List ℕ → List Piece → List ℕ
pieces_text text ps = flat_map (piece_text text) ps

-- a plain piece from i to j, unless it is empty
abbrev pub plain_between : ℕ → ℕ → List Piece
plain_between i j = if nat_lt i j then Plain (span i j) ∷ [] else []

-- the first match from place i on: leftmost first (do_shortcode)
unfoldable pub match_from : List (List ℕ) → List ℕ → ℕ → Option Piece
match_from names text i = do
  k ← first_place (λ k. is_some (match_at names text k)) i (length text)
  match_at names text k

-- the pieces from place i on, of which fewer than n are matches: n counts down so that the definition ends
unfoldable pub pieces_within : List (List ℕ) → List ℕ → ℕ → ℕ → List Piece
pieces_within names text zero i = []
pieces_within names text (suc n) i =
    option_map_or (λ p. plain_between i (start_of p) ++ (p ∷ pieces_within names text n (end_of p))) (match_from names text i) (plain_between i (length text))

-- The pieces of the text, as a list: the only one that `IsPieces` allows (do_shortcode). A text has fewer matches than
-- this count, and no other count gives another list: the law `one_cut`.
abbrev pub pieces_of : List (List ℕ) → List ℕ → List Piece
pieces_of names text = pieces_within names text (length text + 1) 0
