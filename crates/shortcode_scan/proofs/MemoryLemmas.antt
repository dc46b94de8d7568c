-- What a scan knows of places ahead.
use Rattle.std.proofs.Common.{◌≡◌, ℕ, ◌+◌, ◌<◌, ◌≤◌, List, [], ◌∷◌, ◌++◌, false, length, get_or, Option, Some, None, refl, sym, arith, inl, inr}
use Rattle.std.specs.Prelude.{◌==◌, slice_index, IfSome, IsTrue, bytes_eq, codes}
use Rattle.std.proofs.lemmas.Bool.{false≢true, cases_lt}
use Rattle.std.proofs.lemmas.List.{get_or_append_left, get_or_push}
use Rattle.std.proofs.Common.{length-append}
use Rattle.memchr.specs.Find.{occurs_at}
use Rattle.memchr.proofs.lemmas.MatchLemmas.{OccursAt-true}
use Rattle.plain_data.specs.Names.{is_tag_name}
use Rattle.shortcode_scan.specs.declared.ahead.Lookahead.{Lookahead}
use Rattle.shortcode_scan.specs.Memory.{IsAheadOf, nothing_searched}
use Rattle.shortcode_scan.specs.Places.{first_place}
use Rattle.shortcode_scan.specs.Matches.{bracket_from, closing_tag}
use Rattle.shortcode_scan.proofs.PlaceLemmas.{first_place-some, first_place-covered, first_place-past}

-- what was found from an earlier place on, if it covers the later one
pub bracket_covered : (text : List ℕ) (low later : ℕ) (r : Option ℕ) → (low ≤ later) × IfSome r (λ k. later ≤ k) → r ≡ bracket_from text low
    → r ≡ bracket_from text later
bracket_covered text low later r h e = first_place-covered (λ k. slice_index text k == 93) low later (length text) h.0 r e h.1

pub tag_covered : (text tag : List ℕ) (low later : ℕ) (r : Option ℕ) → (low ≤ later) × IfSome r (λ k. later ≤ k)
    → r ≡ first_place (occurs_at text tag) low (length text) → r ≡ first_place (occurs_at text tag) later (length text)
tag_covered text tag low later r h e = first_place-covered (occurs_at text tag) low later (length text) h.0 r e h.1

pub bracket_within : (text : List ℕ) (from : ℕ) (r : Option ℕ) → r ≡ bracket_from text from → IfSome r (λ k. (from ≤ k) × (k < length text))
bracket_within text from None e = tt
bracket_within text from (Some k) e = let h = first_place-some (λ k. slice_index text k == 93) from (length text) k (sym e) in (h.low_le, h.below)

pub tag_within : (text tag : List ℕ) (from : ℕ) (r : Option ℕ) → r ≡ first_place (occurs_at text tag) from (length text)
    → IfSome r (λ k. (from ≤ k) × (k + length tag ≤ length text))
tag_within text tag from None e = tt
tag_within text tag from (Some k) e =
    let h = first_place-some (occurs_at text tag) from (length text) k (sym e) in
    (h.low_le, (OccursAt-true text tag k h.here).fits)

pub length-closing_tag : (name : List ℕ) → length (closing_tag name) ≡ length name + 3
length-closing_tag name = omega (arith, length-append (codes "[/") name, length-append (codes "[/" ++ name) (codes "]"))

-- a tag name has a byte
pub tag_name-some : (name : List ℕ) → IsTrue (is_tag_name name) → bytes_eq name [] ≡ false
tag_name-some [] h = absurd (false≢true h)
tag_name-some (x ∷ xs) h = refl

-- nothing begins at the text's end
pub unsearched_bracket : (text : List ℕ) → (nothing_searched text).next ≡ bracket_from text (nothing_searched text).from
unsearched_bracket text = sym (first_place-past (λ k. slice_index text k == 93) (length text))

unsearched_tag : (text tag : List ℕ) → IsAheadOf text tag (nothing_searched text)
unsearched_tag text tag = sym (first_place-past (occurs_at text tag) (length text))

-- one name more, whose closing tag was not searched for
pub closings_more : (text : List ℕ) (names : List (List ℕ)) (found later : List Lookahead) (name : List ℕ) (i : ℕ)
    → i < length names → name ≡ get_or names i name → length found ≡ i → later ≡ found ++ nothing_searched text ∷ []
    → ((k : ℕ) (n : List ℕ) (a : Lookahead) → k < i → IsAheadOf text (closing_tag (get_or names k n)) (get_or found k a))
    → (k : ℕ) (n : List ℕ) (a : Lookahead) → k < i + 1 → IsAheadOf text (closing_tag (get_or names k n)) (get_or later k a)
closings_more text names found later name i within is count following before k n a lt =
    elim (cases_lt k i) [
      | inl less ↦ rw (following, get_or_append_left found (nothing_searched text ∷ []) a k (omega (arith, count, less))) (before k n a less)
      | inr le ↦
          let same : k ≡ i = omega arith in
          rw (following, same, get_or_push found (nothing_searched text) a i count) (unsearched_tag text (closing_tag (get_or names i n)))
    ]
