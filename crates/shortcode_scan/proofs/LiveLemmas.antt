-- Whether a text has an opening whose name ends after it, as a search over the places of the opening finds it.
use Rattle.std.proofs.Common.{◌≡◌, ℕ, ◌+◌, ◌<◌, true, false, List, length, Some, None, ap, arith, inl, inr}
use Rattle.std.specs.Prelude.{is_some}
use Rattle.std.proofs.lemmas.Bool.{and_left, and_right, and_from, cases_lt}
use Rattle.memchr.specs.Find.{occurs_at}
use Rattle.shortcode_scan.specs.Places.{first_place}
use Rattle.shortcode_scan.specs.Live.{is_name_end, opens_at, has_opening}
use Rattle.shortcode_scan.proofs.PlaceLemmas.{NonePasses, first_place-at, first_place-none, first_place-some, first_place-none_is}

module _ (text opening : List ℕ) where
  opens_at-elsewhere : (k : ℕ) → occurs_at text opening k ≡ false → opens_at text opening k ≡ false
  opens_at-elsewhere k e = and_left _ _ e

  -- no name is opened before the first place of the opening
  pub none_opened : (at k n : ℕ) → NonePasses (opens_at text opening) 0 at → first_place (occurs_at text opening) at n ≡ Some k
      → NonePasses (opens_at text opening) 0 k
  none_opened at k n none e =
      λ j a b. elim (cases_lt j at) [
        | inl lt ↦ none j a lt
        | inr le ↦ opens_at-elsewhere j
            ((first_place-some (occurs_at text opening) at n k e).before j le b)
      ]

  -- nor at that place, if the name goes on after it
  pub one_more : (k : ℕ) → NonePasses (opens_at text opening) 0 k → is_name_end text (k + length opening) ≡ false → NonePasses (opens_at text opening) 0 (k + 1)
  one_more k none e =
      λ j a b. elim (cases_lt j k) [ inl lt ↦ none j a lt | inr le ↦ (let same : j ≡ k = omega arith in rw same (and_right _ _ e)) ]

  pub has_opening-true : (at k : ℕ) → k < length text → NonePasses (opens_at text opening) 0 at → first_place (occurs_at text opening) at (length text) ≡ Some k
      → is_name_end text (k + length opening) ≡ true → has_opening text opening ≡ true
  unfolding has_opening
  has_opening-true at k lt none e ended =
      ap is_some (first_place-at (opens_at text opening) 0 (length text) k
      (record {
        low_le = omega arith;
        below = lt;
        before = none_opened at k (length text) none e;
        here = and_from _ _ (first_place-some (occurs_at text opening) at (length text) k e).here ended;
      }))

  pub has_opening-false : (at : ℕ) → NonePasses (opens_at text opening) 0 at → first_place (occurs_at text opening) at (length text) ≡ None
      → has_opening text opening ≡ false
  unfolding has_opening
  has_opening-false at none e =
      ap is_some (first_place-none (opens_at text opening) 0 (length text) (λ j a b.
      elim (cases_lt j at) [ inl lt ↦ none j a lt | inr le ↦ opens_at-elsewhere j (first_place-none_is (occurs_at text opening) at (length text) e j le b) ]))
