-- There is one way to put a list in order if no two elements tie.
use Rattle.std.proofs.Common.{◌≡◌, ◌≢◌, ◌⊎◌, inl, inr, ◌+◌, get_or, List, [], ◌∷◌, map, false, Ordering, Less, Equal, Greater, refl, sym, ap, subst, ◌∙◌}
use Rattle.std.proofs.Common.{arith, true≢false}
use Rattle.std.specs.List.{IsDistinct}
use Rattle.std.specs.List.Sorted.{IsSorted, IsPermutation, IsStrictlySortedBy}
use Rattle.std.specs.Ordering.{is_eq, is_lt, eq_by_cmp, match_ordering, ordering_reverse}
use Rattle.std.specs.Cmp.{IsTotalOrder, eq_by_cmp_equiv}
use Rattle.std.proofs.lemmas.Map.Keys.{IsDistinct-IsPermutation, sorted_from_all_adjacent, apart_from_distinct}
use Rattle.std.proofs.lemmas.List.Sorted.{Contains-permutation, IsPermutation-sym}
use Rattle.std.proofs.lemmas.Cmp.{tied_itself}
use Rattle.sqlite_rules.specs.Lists.{Has}
use Rattle.sqlite_rules.proofs.ListLemmas.{has_contained, contains_had, all_has, all_from}
use Rattle.table_rows.specs.Sorting.{put_sorted, in_order}

module _ {X : Type 0} (R : X → X → Ordering) (o : IsTotalOrder R) where
  below : (a b : X) → is_lt (R b a) ≡ false → eq_by_cmp R a b ≡ false → R a b ≡ Less
  below a b up apart = go (R a b) (o.antisymm b a) apart
    where
      go : (r : Ordering) → R b a ≡ ordering_reverse r → is_eq r ≡ false → r ≡ Less
      go Less e h = refl
      go Equal e h = absurd (true≢false h)
      go Greater e h = absurd (true≢false (sym (ap is_lt e) ∙ up))

  strictly : (xs : List X) (d : X) → IsSorted R xs → IsDistinct (eq_by_cmp R) xs → IsStrictlySortedBy R xs
  strictly xs d up apart = sorted_from_all_adjacent o xs d (λ k h.
      below (get_or xs k d) (get_or xs (k + 1) d) (up k d (omega arith) h) (apart_from_distinct (eq_by_cmp R) xs k (k + 1) d apart (omega arith) h))

  pub strict : (xs : List X) → IsSorted R xs → IsDistinct (eq_by_cmp R) xs → IsStrictlySortedBy R xs
  unfolding IsStrictlySortedBy
  strict [] up apart = tt
  strict (x ∷ xs) up apart = strictly (x ∷ xs) x up apart

  pub strict_order : (xs ys : List X) → IsPermutation xs ys → IsDistinct (eq_by_cmp R) xs → IsSorted R ys → IsStrictlySortedBy R ys
  strict_order xs ys moved apart up = strict ys up (IsDistinct-IsPermutation (eq_by_cmp R) (eq_by_cmp_equiv o).symm xs ys moved apart)

  not_less : (x : X) → R x x ≢ Less
  not_less x h = let e = tied_itself o x in cc

  less_once : (x y : X) → R x y ≡ Less → R y x ≢ Less
  less_once x y p q = let e = o.antisymm x y ∙ ap ordering_reverse q in cc

  -- two lists that rise and have the same elements are one
  pub same_elements : (xs ys : List X) → IsStrictlySortedBy R xs → IsStrictlySortedBy R ys → ((x : X) → Has xs x → Has ys x) → ((x : X) → Has ys x → Has xs x)
      → xs ≡ ys
  unfolding IsStrictlySortedBy
  same_elements [] [] up vp there back = refl
  same_elements [] (y ∷ ys) up vp there back = absurd (back y (inl refl))
  same_elements (x ∷ xs) [] up vp there back = absurd (there x (inl refl))
  same_elements (x ∷ xs) (y ∷ ys) up vp there back =
      let first : x ≡ y = elim (there x (inl refl)) [
        | inl same ↦ same
        | inr later ↦ elim (back y (inl refl)) [
          | inl same ↦ sym same
          | inr late ↦ absurd (less_once x y (all_has _ xs y up.0 late) (all_has _ ys x vp.0 later))
        ]
      ] in
      let rest : xs ≡ ys = same_elements xs ys up.1 vp.1
      (λ z h. elim (there z (inr h)) [
        | inl same ↦ absurd (not_less x (subst (λ w. R x w ≡ Less) (same ∙ sym first) (all_has _ xs z up.0 h)))
        | inr later ↦
            later
      ])
      (λ z h. elim (back z (inr h)) [ inl same ↦ absurd (not_less y (subst (λ w. R y w ≡ Less) (same ∙ first) (all_has _ ys z vp.0 h))) | inr later ↦ later ])
      in λ i. first i ∷ rest i

  put_had : (x : X) (ys : List X) (z : X) → Has (put_sorted R x ys) z → (z ≡ x) ⊎ Has ys z
  put_had x [] z h = h
  put_had x (y ∷ ys) z h = go (R x y) h (put_had x ys z)
    where
      go : (r : Ordering) → Has (match_ordering r (x ∷ y ∷ ys) (x ∷ y ∷ ys) (y ∷ put_sorted R x ys)) z → (Has (put_sorted R x ys) z → (z ≡ x) ⊎ Has ys z)
          → (z ≡ x) ⊎ Has (y ∷ ys) z
      go Less here later = here
      go Equal here later = here
      go Greater (inl same) later = inr (inl same)
      go Greater (inr there) later = elim (later there) [ inl is ↦ inl is | inr was ↦ inr (inr was) ]

  put_has_it : (x : X) (ys : List X) (z : X) → (z ≡ x) ⊎ Has ys z → Has (put_sorted R x ys) z
  put_has_it x [] z h = h
  put_has_it x (y ∷ ys) z h = go (R x y) h (put_has_it x ys z)
    where
      go : (r : Ordering) → (z ≡ x) ⊎ Has (y ∷ ys) z → ((z ≡ x) ⊎ Has ys z → Has (put_sorted R x ys) z)
          → Has (match_ordering r (x ∷ y ∷ ys) (x ∷ y ∷ ys) (y ∷ put_sorted R x ys)) z
      go Less here later = here
      go Equal here later = here
      go Greater (inl same) later = inr (later (inl same))
      go Greater (inr (inl same)) later = inl same
      go Greater (inr (inr there)) later = inr (later (inr there))

  pub sorted_had : (xs : List X) (z : X) → Has (in_order R xs) z → Has xs z
  sorted_had [] z h = h
  sorted_had (x ∷ xs) z h = elim (put_had x (in_order R xs) z h) [ inl same ↦ inl same | inr was ↦ inr (sorted_had xs z was) ]

  pub sorted_has : (xs : List X) (z : X) → Has xs z → Has (in_order R xs) z
  sorted_has [] z h = h
  sorted_has (x ∷ xs) z (inl same) = put_has_it x (in_order R xs) z (inl same)
  sorted_has (x ∷ xs) z (inr later) = put_has_it x (in_order R xs) z (inr (sorted_has xs z later))

  put_rises : (x : X) (ys : List X) → IsStrictlySortedBy R ys → ((y : X) → Has ys y → eq_by_cmp R x y ≡ false) → IsStrictlySortedBy R (put_sorted R x ys)
  unfolding IsStrictlySortedBy
  put_rises x [] up apart = (tt, tt)
  put_rises x (y ∷ ys) up apart = go (R x y) refl (apart y (inl refl)) (put_rises x ys up.1 (λ z h. apart z (inr h)))
    where
      go : (r : Ordering) → R x y ≡ r → is_eq (R x y) ≡ false → IsStrictlySortedBy R (put_sorted R x ys)
          → IsStrictlySortedBy R (match_ordering r (x ∷ y ∷ ys) (x ∷ y ∷ ys) (y ∷ put_sorted R x ys))
      go Less e h later = ((e, all_from _ ys (λ z there. o.trans x y z e (all_has _ ys z up.0 there))), up)
      go Equal e h later = absurd (true≢false (sym (ap is_eq e) ∙ h))
      go Greater e h later =
          let under : R y x ≡ Less = o.antisymm y x ∙ ap ordering_reverse e in (
            all_from _ (put_sorted R x ys) (λ z there. elim (put_had x ys z there)
                [ inl same ↦ subst (λ w. R y w ≡ Less) (sym same) under | inr was ↦ all_has _ ys z up.0 was ]),
            later,
          )

  pub sorted_rises : (xs : List X) → IsDistinct (eq_by_cmp R) xs → IsStrictlySortedBy R (in_order R xs)
  unfolding IsStrictlySortedBy IsDistinct
  sorted_rises [] apart = tt
  sorted_rises (x ∷ xs) apart = put_rises x (in_order R xs) (sorted_rises xs apart.1) (λ y h. all_has _ xs y apart.0 (sorted_had xs y h))

  -- an order that ORDER BY allows is the order
  pub one_in_order : (xs ys : List X) → IsPermutation xs ys → IsDistinct (eq_by_cmp R) xs → IsSorted R ys → ys ≡ in_order R xs
  one_in_order xs ys moved apart up = same_elements ys (in_order R xs) (strict_order xs ys moved apart up) (sorted_rises xs apart)
      (λ z h. sorted_has xs z (has_contained xs z (Contains-permutation ys xs z (IsPermutation-sym xs ys moved) (contains_had ys z h))))
      (λ z h. has_contained ys z (Contains-permutation xs ys z moved (contains_had xs z (sorted_had xs z h))))

-- putting in order goes through a map that keeps the order
put_mapped : {X Y : Type 0} (R : X → X → Ordering) (S : Y → Y → Ordering) (f : X → Y) → ((a b : X) → S (f a) (f b) ≡ R a b) → (x : X) (ys : List X)
    → map f (put_sorted R x ys) ≡ put_sorted S (f x) (map f ys)
put_mapped R S f same x [] = refl
put_mapped {X} {Y} R S f same x (y ∷ ys) = go (R x y) (same x y) (put_mapped R S f same x ys)
  where
    go : (r : Ordering) → S (f x) (f y) ≡ r → map f (put_sorted R x ys) ≡ put_sorted S (f x) (map f ys)
        → map f (match_ordering r (x ∷ y ∷ ys) (x ∷ y ∷ ys) (y ∷ put_sorted R x ys))
        ≡ match_ordering (S (f x) (f y)) (f x ∷ f y ∷ map f ys) (f x ∷ f y ∷ map f ys) (f y ∷ put_sorted S (f x) (map f ys))
    go Less e later = rw e refl
    go Equal e later = rw e refl
    go Greater e later = rw e (ap (λ l. f y ∷ l) later)

pub sorted_mapped : {X Y : Type 0} (R : X → X → Ordering) (S : Y → Y → Ordering) (f : X → Y) → ((a b : X) → S (f a) (f b) ≡ R a b) → (xs : List X)
    → map f (in_order R xs) ≡ in_order S (map f xs)
sorted_mapped R S f same [] = refl
sorted_mapped R S f same (x ∷ xs) = put_mapped R S f same x (in_order R xs) ∙ ap (put_sorted S (f x)) (sorted_mapped R S f same xs)
