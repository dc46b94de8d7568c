-- Texts in which no shortcode ends: no `[` has a `]` after it.
use Rattle.std.proofs.Common.{◌≡◌, ℕ, ◌<◌, List, length, Option, Some, None, refl, sym, ap, ◌∙◌, arith, inl, inr}
use Rattle.std.specs.Prelude.{◌==◌, slice_index}
use Rattle.std.proofs.lemmas.List.{get_or_past}
use Rattle.std.proofs.lemmas.Bool.{cases_lt, eqb-true, false≢true}
use Rattle.shortcode_scan.specs.Places.{first_place}
use Rattle.shortcode_scan.specs.Matches.{bracket_from}
use Rattle.shortcode_scan.specs.Pieces.{plain_between, pieces_of}
use Rattle.shortcode_scan.proofs.PlaceLemmas.{first_place-some, first_place-none_is}
use Rattle.shortcode_scan.proofs.PieceLemmas.{NoMatch-unended, NoMatch-without, pieces_of-plain}

module _ (text : List ℕ) where
  -- no `[` has a `]` after it
  abbrev pub EndsNone : Type 0
  EndsNone = (i : ℕ) (j : ℕ) → i < j → slice_index text i ≡ 91 → slice_index text j ≡ 93 → ⊥

  -- a byte above 0 lies in the text
  within : (i b : ℕ) → slice_index text i ≡ b → 0 < b → i < length text
  within i b e some =
      elim (cases_lt i (length text)) [
        | inl lt ↦ lt
        | inr past ↦ absurd (omega (arith, e, get_or_past text i 0 past))
      ]

  module _ (none : first_place (λ k. slice_index text k == 91) 0 (length text) ≡ None) where
    pub ends_none-unopened : EndsNone
    ends_none-unopened i j lt opens ends =
        false≢true (sym (first_place-none_is (λ k. slice_index text k == 91) 0 (length text) none i (omega arith) (within i 91 opens (omega arith)))
        ∙ ap (λ b. b == 91) opens)

    pub plain-unopened : (names : List (List ℕ)) → pieces_of names text ≡ plain_between 0 (length text)
    plain-unopened names = pieces_of-plain names text (NoMatch-without names text 0 (length text) none)

  module _ (start : ℕ) (first : first_place (λ k. slice_index text k == 91) 0 (length text) ≡ Some start) where
    pub ends_none-unended : bracket_from text start ≡ None → EndsNone
    ends_none-unended none i j lt opens ends =
        let begins = first_place-some (λ k. slice_index text k == 91) 0 (length text) start first in
        elim (cases_lt i start) [
          | inl before ↦ false≢true (sym (begins.before i (omega arith) before) ∙ ap (λ b. b == 91) opens)
          | inr after ↦ false≢true
              (sym (first_place-none_is (λ k. slice_index text k == 93) start (length text) none j (omega arith) (within j 93 ends (omega arith)))
              ∙ ap (λ b. b == 93) ends)
        ]

    pub ends_none-is : EndsNone → (o : Option ℕ) → bracket_from text start ≡ o → o ≡ None
    ends_none-is none None e = refl
    ends_none-is none (Some r) e =
        let begins = first_place-some (λ k. slice_index text k == 91) 0 (length text) start first in
        let ends = first_place-some (λ k. slice_index text k == 93) start (length text) r e in
        let opening : slice_index text start ≡ 91 = eqb-true (slice_index text start) 91 begins.here in
        let closing : slice_index text r ≡ 93 = eqb-true (slice_index text r) 93 ends.here in
        elim (cases_lt start r) [
          | inl lt ↦ absurd (none start r lt opening closing)
          | inr le ↦ (let same : start ≡ r = omega (arith, ends.low_le) in absurd (omega (arith, opening, closing, ap (slice_index text) same)))
        ]

    pub plain-unended : bracket_from text start ≡ None → (names : List (List ℕ)) → pieces_of names text ≡ plain_between 0 (length text)
    plain-unended none names = pieces_of-plain names text (NoMatch-unended names text 0 start (length text) first none)
