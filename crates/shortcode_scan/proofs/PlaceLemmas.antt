-- The first place that passes a test, as a search finds it.
use Rattle.std.proofs.Common.{◌≡◌, ℕ, zero, suc, ◌+◌, ◌-◌, ◌<◌, ◌≤◌, Bool, true, false, List, length, drop, Option, Some, None, refl, sym, ap, ◌∙◌, subst}
use Rattle.std.proofs.Common.{arith, inl, inr, length-drop, get_or-drop, take}
use Rattle.std.proofs.lemmas.List.{take_rest}
use Rattle.std.specs.Prelude.{◌==◌, slice_index, find, option_map, MatchOption, IfSome}
use Rattle.std.specs.List.{range_with_len}
use Rattle.std.proofs.lemmas.Bool.{cases_eq, cond-true, cond-false, false_from_ne_true, cond_both, cases_lt}
use Rattle.std.proofs.lemmas.Option.{none-some}
use Rattle.memchr.specs.Find.{IsFirstByte, FindsNeedle, OccursAt, occurs_at, is_byte}
use Rattle.memchr.proofs.lemmas.MatchLemmas.{occurs_at-true, OccursAt-true}
use Rattle.shortcode_scan.specs.Places.{first_place}

-- k is the first place from low on and below high that passes
pub record IsFirstAt (test : ℕ → Bool) (low high k : ℕ) : Type 0 where
  pub low_le : low ≤ k
  pub below : k < high
  pub before : (j : ℕ) → low ≤ j → j < k → test j ≡ false
  pub here : test k ≡ true

-- no place from low on and below high passes
abbrev pub NonePasses : (ℕ → Bool) → ℕ → ℕ → Type 0
NonePasses test low high = (j : ℕ) → low ≤ j → j < high → test j ≡ false

found : (test : ℕ → Bool) (n low k : ℕ) → IsFirstAt test low (low + n) k → find test (range_with_len low n) ≡ Some k
found test zero low k h = absurd (omega (arith, h.low_le, h.below))
found test (suc n) low k h =
    elim (cases_eq low k) [
      | inl e ↦ cond-true (test low) (Some low) _ (rw e h.here) ∙ ap Some e
      | inr ne ↦ cond-false (test low) (Some low) _ (h.before low (omega arith) (omega (arith, h.low_le))) ∙
          found test n (low + 1) k (record {
            low_le = omega (arith, h.low_le);
            below = omega (arith, h.below);
            before = λ j a b. h.before j (omega arith) b;
            here = h.here;
          })
    ]

not_found : (test : ℕ → Bool) (n low : ℕ) → NonePasses test low (low + n) → find test (range_with_len low n) ≡ None
not_found test zero low h = refl
not_found test (suc n) low h =
    cond-false (test low) (Some low) _ (h low (omega arith) (omega arith)) ∙
    not_found test n (low + 1) (λ j a b. h j (omega arith) (omega arith))

module _ (test : ℕ → Bool) (low high : ℕ) where
  pub first_place-at : (k : ℕ) → IsFirstAt test low high k → first_place test low high ≡ Some k
  unfolding first_place
  first_place-at k h =
      found test (high - low) low k (record { low_le = h.low_le; below = omega (arith, h.low_le, h.below); before = h.before; here = h.here })

  pub first_place-none : NonePasses test low high → first_place test low high ≡ None
  unfolding first_place
  first_place-none h = not_found test (high - low) low (λ j a b. h j a (omega arith))

  -- a place that passes is the first from there on
  pub first_place-here : low < high → test low ≡ true → first_place test low high ≡ Some low
  first_place-here lt here = first_place-at low (record { low_le = omega arith; below = lt; before = λ j a b. absurd (omega arith); here = here })

-- what passes at from + k of the text passes at k of the text from there on
abbrev pub shifted : ℕ → Option ℕ → Option ℕ
shifted from r = option_map (λ k. from + k) r

-- a search for a byte in the text from a place on
byte_found_in : (b : ℕ) (text : List ℕ) (from : ℕ) (r : Option ℕ) → from ≤ length text → IsFirstByte (is_byte b) (drop from text) r
    → first_place (λ k. slice_index text k == b) from (length text) ≡ shifted from r
byte_found_in b text from None fits h =
    first_place-none (λ k. slice_index text k == b) from (length text)
    (λ j a l. false_from_ne_true _ (λ yes.
    let at : slice_index (drop from text) (j - from) ≡ slice_index text j = get_or-drop from text (j - from) 0 ∙ ap (slice_index text) (omega arith) in
    h (j - from) (omega arith) (omega (arith, length-drop from text)) (ap (λ x. x == b) at ∙ yes)))
byte_found_in b text from (Some k) fits h =
    let low = h.0.high in
    first_place-at (λ k. slice_index text k == b) from (length text) (from + k)
    (record {
      low_le = omega arith;
      below = omega (arith, length-drop from text, h.0.high);
      before = λ j a l. false_from_ne_true _ (λ yes.
          let at : slice_index (drop from text) (j - from) ≡ slice_index text j = get_or-drop from text (j - from) 0 ∙ ap (slice_index text) (omega arith) in
          h.0.before (j - from) (omega arith) (omega arith) (ap (λ x. x == b) at ∙ yes));
      here = ap (λ x. x == b) (sym (get_or-drop from text k 0)) ∙ h.1;
    })

-- `&text[from..]`
abbrev pub tail : List ℕ → ℕ → List ℕ
tail text from = take (length text - from) (drop from text)

pub byte_found : (b : ℕ) (text : List ℕ) (from : ℕ) (r : Option ℕ) → from ≤ length text → IsFirstByte (is_byte b) (tail text from) r
    → first_place (λ k. slice_index text k == b) from (length text) ≡ shifted from r
byte_found b text from r fits h = byte_found_in b text from r fits (subst (λ hay. IsFirstByte (is_byte b) hay r) (take_rest text from) h)

-- a needle in the text from a place on
module _ (text needle : List ℕ) (from : ℕ) (fits : from ≤ length text) where
  occurs_later : (k : ℕ) → OccursAt (drop from text) needle k → OccursAt text needle (from + k)
  occurs_later k h = record {
    fits = omega (arith, length-drop from text, h.fits);
    reads = λ j l. ap (slice_index text) (omega arith) ∙ sym (get_or-drop from text (k + j) 0) ∙ h.reads j l;
  }

  occurs_earlier : (k : ℕ) → from ≤ k → OccursAt text needle k → OccursAt (drop from text) needle (k - from)
  occurs_earlier k a h = record {
    fits = omega (arith, length-drop from text, h.fits);
    reads = λ j l. get_or-drop from text (k - from + j) 0 ∙ ap (slice_index text) (omega arith) ∙ h.reads j l;
  }

  needle_found_in : (r : Option ℕ) → 0 < length needle → FindsNeedle (drop from text) needle 0 r
      → first_place (occurs_at text needle) from (length text) ≡ shifted from r
  needle_found_in None some h =
      first_place-none (occurs_at text needle) from (length text)
      (λ j a l. false_from_ne_true _ (λ yes.
      h (j - from) (omega arith) (omega (arith, length-drop from text)) (occurs_earlier j a (OccursAt-true text needle j yes))))
  needle_found_in (Some k) some h =
      let there = occurs_later k h.1 in
      first_place-at (occurs_at text needle) from (length text) (from + k)
      (record {
        low_le = omega arith;
        below = omega (arith, there.fits);
        before = λ j a l. false_from_ne_true _ (λ yes.
            h.0.before (j - from) (omega arith) (omega arith) (occurs_earlier j a (OccursAt-true text needle j yes)));
        here = occurs_at-true text needle (from + k) there;
      })

  pub needle_found : (r : Option ℕ) → 0 < length needle → FindsNeedle (tail text from) needle 0 r
      → first_place (occurs_at text needle) from (length text) ≡ shifted from r
  needle_found r some h = needle_found_in r some (subst (λ hay. FindsNeedle hay needle 0 r) (take_rest text from) h)

-- r is the first place that passes, if there is one
abbrev pub IsFirstIn : (ℕ → Bool) → ℕ → ℕ → Option ℕ → Type 0
IsFirstIn test low high r = MatchOption r (NonePasses test low high) (λ k. IsFirstAt test low high k)

one_earlier : (test : ℕ → Bool) (low n : ℕ) (r : Option ℕ) → test low ≡ false → IsFirstIn test (low + 1) (low + 1 + n) r → IsFirstIn test low (low + suc n) r
one_earlier test low n None not_low h =
    λ j a b. elim (cases_eq low j) [ inl e ↦ subst (λ x. test x ≡ false) e not_low | inr ne ↦ h j (omega arith) (omega arith) ]
one_earlier test low n (Some k) not_low h = record {
  low_le = omega (arith, h.low_le);
  below = omega (arith, h.below);
  before = λ j a b. elim (cases_eq low j) [ inl e ↦ subst (λ x. test x ≡ false) e not_low | inr ne ↦ h.before j (omega arith) b ];
  here = h.here;
}

first_is : (test : ℕ → Bool) (n low : ℕ) → IsFirstIn test low (low + n) (find test (range_with_len low n))
first_is test zero low = λ j a b. absurd (omega arith)
first_is test (suc n) low =
    cond_both (test low) (Some low) (find test (range_with_len (low + 1) n)) (λ r. IsFirstIn test low (low + suc n) r)
    (λ yes. record { low_le = omega arith; below = omega arith; before = λ j a b. absurd (omega arith); here = yes })
    (λ not_low. one_earlier test low n _ not_low (first_is test n (low + 1)))

module _ (test : ℕ → Bool) (low high : ℕ) where
  first_place-is : low ≤ high → IsFirstIn test low high (first_place test low high)
  unfolding first_place
  first_place-is le =
      let e : low + (high - low) ≡ high = omega arith in
      subst (λ h. IsFirstIn test low h (find test (range_with_len low (high - low)))) e (first_is test (high - low) low)

  first_place-empty : high < low → first_place test low high ≡ None
  first_place-empty lt = first_place-none test low high (λ j a b. absurd (omega arith))

  pub first_place-some : (k : ℕ) → first_place test low high ≡ Some k → IsFirstAt test low high k
  first_place-some k e =
      elim (cases_lt high low) [
        | inl lt ↦ absurd (none-some k (sym (first_place-empty lt) ∙ e))
        | inr le ↦ subst (λ r. IsFirstIn test low high r) e (first_place-is le)
      ]

  pub first_place-none_is : first_place test low high ≡ None → NonePasses test low high
  first_place-none_is e =
      elim (cases_lt high low) [
        | inl lt ↦ λ j a b. absurd (omega arith)
        | inr le ↦ subst (λ r. IsFirstIn test low high r) e (first_place-is le)
      ]

-- a later search finds the same, up to what was found
module _ (test : ℕ → Bool) (low later high : ℕ) (le : low ≤ later) where
  pub first_place-later : (k : ℕ) → later ≤ k → first_place test low high ≡ Some k → first_place test later high ≡ Some k
  first_place-later k a e =
      let h = first_place-some test low high k e in
      first_place-at test later high k (record { low_le = a; below = h.below; before = λ j b c. h.before j (omega arith) c; here = h.here })

  pub first_place-none_later : first_place test low high ≡ None → first_place test later high ≡ None
  first_place-none_later e =
      let h = first_place-none_is test low high e in
      first_place-none test later high (λ j a b. h j (omega arith) b)

  -- what a search found, if it covers the later place
  pub first_place-covered : (r : Option ℕ) → r ≡ first_place test low high → IfSome r (λ k. later ≤ k) → r ≡ first_place test later high
  first_place-covered None e h = sym (first_place-none_later (sym e))
  first_place-covered (Some k) e h = sym (first_place-later k h (sym e))

-- no place is before the end and from the end on
pub first_place-past : (test : ℕ → Bool) (high : ℕ) → first_place test high high ≡ None
first_place-past test high = first_place-none test high high (λ j a b. absurd (omega arith))
