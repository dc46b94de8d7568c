-- Registrations by ascending priority.
use Rattle.std.proofs.Common.{◌≡◌, ℤ, Bool, true, false, cond, not, List, [], ◌∷◌, map, filter, None, Some, refl, ap, ◌∙◌, arith}
use Rattle.std.specs.Prelude.{int_lt, ◌≤ℤ◌, fold, slice_get, option_map}
use Rattle.std.specs.Int.{int_min}
use Rattle.std.proofs.lemmas.Int.{ints}
use Rattle.hook_registry.specs.declared.registration.Registration.{Registration}
use Rattle.hook_registry.specs.Order.{NoneBelow, IsAscending}
use Rattle.hook_registry.specs.Table.{is_other, is_above, least}

pub not_above : (p q : ℤ) → int_lt q p ≡ false → p ≤ℤ q
not_above p q h = grind (arith, ints)

pub less_or_equal : (p q : ℤ) → int_lt p q ≡ true → p ≤ℤ q
less_or_equal p q h = grind (arith, ints)

transitive : (p q r : ℤ) → p ≤ℤ q → q ≤ℤ r → p ≤ℤ r
transitive p q r h k = grind (arith, ints)

pub none_below_less : (p q : ℤ) (rs : List Registration) → p ≤ℤ q → NoneBelow q rs → NoneBelow p rs
none_below_less p q [] l h = tt
none_below_less p q (r ∷ rs) l h = (transitive p q r.priority l h.0, none_below_less p q rs l h.1)

pub none_below-filter : (p : ℤ) (passes : Registration → Bool) (rs : List Registration) → NoneBelow p rs → NoneBelow p (filter passes rs)
none_below-filter p passes [] h = tt
none_below-filter p passes (r ∷ rs) h =
    elim (passes r) as (λ b. NoneBelow p (cond b (r ∷ filter passes rs) (filter passes rs)))
    [ true ↦ (h.0, none_below-filter p passes rs h.1) | false ↦ none_below-filter p passes rs h.1 ]

-- nothing passes if all go
pub filter_other-none : (rs : List Registration) → [] ≡ filter (is_other None) rs
filter_other-none [] = refl
filter_other-none (r ∷ rs) = filter_other-none rs

pub not_true : (b : Bool) → not b ≡ true → b ≡ false
not_true true h = cc
not_true false h = refl

pub not_false : (b : Bool) → not b ≡ false → b ≡ true
not_false true h = refl
not_false false h = cc

-- the smallest of some priorities that come by ascending order is the first
least_first : (p : ℤ) (rs : List Registration) → NoneBelow p rs → fold int_min p (map (λ r. r.priority) rs) ≡ p
least_first p [] h = refl
least_first p (r ∷ rs) h = let same : int_min p r.priority ≡ p = lesser_of p r.priority h.0 in ap (λ q. fold int_min q (map (λ s. s.priority) rs)) same
    ∙ least_first p rs h.1
  where
    lesser_of : (p q : ℤ) → p ≤ℤ q → int_min p q ≡ p
    lesser_of p q l = grind (arith, ints)

pub least-ascending : (rs : List Registration) → IsAscending rs → least (map (λ r. r.priority) rs) ≡ option_map (λ r. r.priority) (slice_get rs 0)
least-ascending [] h = refl
least-ascending (r ∷ rs) h = ap Some (least_first r.priority rs h.0)

pub above-none : (rs : List Registration) → filter (is_above None) rs ≡ rs
above-none [] = refl
above-none (r ∷ rs) = ap (λ ss. r ∷ ss) (above-none rs)
