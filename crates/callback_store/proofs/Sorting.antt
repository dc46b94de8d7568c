-- A stable sort puts a list in the only such order.
use Rattle.std.proofs.Common.{◌≡◌, ℕ, ◌<◌, ◌≤◌, suc, Bool, true, false, cond, not, ◌&&◌, List, [], ◌∷◌, map, filter, length, get_or, refl, ap, sym, ◌∙◌}
use Rattle.std.proofs.Common.{subst, arith, true≢false}
use Rattle.std.specs.Cmp.{IsStrictWeakOrder}
use Rattle.std.specs.List.{AllByRecursion}
use Rattle.std.specs.List.Sorted.{IsSortedBy, IsStableBy, ties}
use Rattle.std.proofs.lemmas.List.Sorted.{sorted_far}
use Rattle.callback_store.specs.Sorting.{with_placed, in_order}

module _ {X : Type 0} (lt : X → X → Bool) (o : IsStrictWeakOrder lt) where
  -- no item comes before x
  abbrev NoneBefore : X → List X → Type 0
  NoneBefore x xs = AllByRecursion (λ y. lt y x ≡ false) xs

  abbrev Up : List X → Type 0
  Up [] = Unit {0}
  Up (x ∷ xs) = NoneBefore x xs × Up xs

  none_before_of : (x : X) (xs : List X) → ((k : ℕ) → k < length xs → lt (get_or xs k x) x ≡ false) → NoneBefore x xs
  none_before_of x [] h = tt
  none_before_of x (y ∷ ys) h = (h 0 (omega arith), none_before_of x ys (λ k p. h (suc k) (omega arith)))

  up_of : (xs : List X) → ((i j : ℕ) (d : X) → i ≤ j → j < length xs → lt (get_or xs j d) (get_or xs i d) ≡ false) → Up xs
  up_of [] h = tt
  up_of (x ∷ xs) h = (
    none_before_of x xs (λ k p. h 0 (suc k) x (omega arith) (omega arith)),
    up_of xs
        (λ i j d p q. h (suc i) (suc j) d (omega arith) (omega arith)),
  )

  none_before-placed : (x y : X) (ys : List X) → lt y x ≡ false → NoneBefore x ys → NoneBefore x (with_placed lt y ys)
  none_before-placed x y [] n h = (n, tt)
  none_before-placed x y (z ∷ zs) n h =
      elim (lt z y) as (λ b. NoneBefore x (cond b (z ∷ with_placed lt y zs) (y ∷ z ∷ zs))) [ true ↦ (h.0, none_before-placed x y zs n h.1) | false ↦ (n, h) ]

  none_before-chain : (x y : X) (ys : List X) → lt y x ≡ false → NoneBefore y ys → NoneBefore x ys
  none_before-chain x y [] n h = tt
  none_before-chain x y (z ∷ zs) n h = (o.chain z y x h.0 n, none_before-chain x y zs n h.1)

  up-placed : (x : X) (ys : List X) → Up ys → Up (with_placed lt x ys)
  up-placed x [] h = (tt, tt)
  up-placed x (y ∷ ys) h =
      elim (lt y x) as (λ b. lt y x ≡ b → Up (cond b (y ∷ with_placed lt x ys) (x ∷ y ∷ ys))) [
        | true ↦ λ e. (none_before-placed y x ys (o.one_way y x e) h.0, up-placed x ys h.1)
        | false ↦ λ e. ((e, none_before-chain x y ys e h.0), h)
      ] refl

  up-sorted : (xs : List X) → Up (in_order lt xs)
  up-sorted [] = tt
  up-sorted (x ∷ xs) = up-placed x (in_order lt xs) (up-sorted xs)

  both : (a b : Bool) → not a && not b ≡ true → (a ≡ false) × (b ≡ false)
  both true b e = absurd (true≢false (sym e))
  both false true e = absurd (true≢false (sym e))
  both false false e = (refl, refl)

  -- of two items that tie with a third, neither comes before the other
  apart : (z x y : X) → lt y x ≡ true → ties lt z y ≡ true → ties lt z x ≡ false
  apart z x y l t =
      elim (ties lt z x) as (λ b. ties lt z x ≡ b → b ≡ false) [
        | true ↦ λ e. absurd (true≢false (sym l ∙ o.chain y z x (both (lt z y) (lt y z) t).1 (both (lt z x) (lt x z) e).0))
        | false ↦ λ e. refl
      ] refl

  kept-placed : (z x : X) (ys : List X) → filter (ties lt z) (with_placed lt x ys) ≡ filter (ties lt z) (x ∷ ys)
  kept-placed z x [] = refl
  kept-placed z x (y ∷ ys) =
      elim (lt y x) as (λ b. lt y x ≡ b → filter (ties lt z) (cond b (y ∷ with_placed lt x ys) (x ∷ y ∷ ys)) ≡ filter (ties lt z) (x ∷ y ∷ ys)) [
        | true ↦ λ l.
            elim (ties lt z y) as (λ b. ties lt z y ≡ b → cond b (y ∷ filter (ties lt z) (with_placed lt x ys)) (filter (ties lt z) (with_placed lt x ys))
            ≡ cond (ties lt z x) (x ∷ cond b (y ∷ filter (ties lt z) ys) (filter (ties lt z) ys))
            (cond b (y ∷ filter (ties lt z) ys) (filter (ties lt z) ys))) [
              | true ↦ λ t. ap (λ rest. y ∷ rest) (kept-placed z x ys) ∙ rw (apart z x y l t) refl
              | false ↦ λ t. kept-placed z x ys
            ] refl
        | false ↦ λ l. refl
      ] refl

  pub stable-sorted : (xs : List X) → IsStableBy lt xs (in_order lt xs)
  stable-sorted [] z = refl
  stable-sorted (x ∷ xs) z = kept-placed z x (in_order lt xs) ∙ ap (λ rest. cond (ties lt z x) (x ∷ rest) rest) (stable-sorted xs z)

  not_itself : (x : X) → lt x x ≡ false
  not_itself x = elim (lt x x) as (λ b. lt x x ≡ b → b ≡ false) [ true ↦ λ e. sym e ∙ o.one_way x x e | false ↦ λ e. refl ] refl

  tie : (x y : X) → lt x y ≡ false → lt y x ≡ false → ties lt x y ≡ true
  tie x y p q = rw (p, q) refl

  -- what holds of all holds of the first that passes
  first_kept : (P : X → Type 0) (p : X → Bool) (xs : List X) (x : X) (rest : List X) → AllByRecursion P xs → filter p xs ≡ x ∷ rest → P x
  first_kept P p [] x rest h e = cc
  first_kept P p (y ∷ ys) x rest h e =
      elim (p y) as (λ b. cond b (y ∷ filter p ys) (filter p ys) ≡ x ∷ rest → P x) [
        | true ↦ λ q. let same : y ≡ x = cc in subst P same h.0
        | false ↦ λ q. first_kept P p ys x rest h.1 q
      ] e

  same_rest : (b : Bool) (x : X) (xs ys : List X) → cond b (x ∷ xs) xs ≡ cond b (x ∷ ys) ys → xs ≡ ys
  same_rest true x xs ys e = cc
  same_rest false x xs ys e = e

  -- what ties stays
  tied : (x y : X) (ys : List X) → lt x y ≡ false → lt y x ≡ false → filter (ties lt x) (y ∷ ys) ≡ y ∷ filter (ties lt x) ys
  tied x y ys p q = ap (λ b. cond b (y ∷ filter (ties lt x) ys) (filter (ties lt x) ys)) (tie x y p q)

  one_order : (xs ys : List X) → Up xs → Up ys → IsStableBy lt xs ys → xs ≡ ys
  one_order [] [] up vp same = refl
  one_order [] (y ∷ ys) up vp same = let e : y ∷ filter (ties lt y) ys ≡ [] = sym (tied y y ys (not_itself y) (not_itself y)) ∙ same y in cc
  one_order (x ∷ xs) [] up vp same = let e : x ∷ filter (ties lt x) xs ≡ [] = sym (tied x x xs (not_itself x) (not_itself x)) ∙ sym (same x) in cc
  one_order (x ∷ xs) (y ∷ ys) up vp same =
      let there : filter (ties lt x) (y ∷ ys) ≡ x ∷ filter (ties lt x) xs = same x ∙ tied x x xs (not_itself x) (not_itself x) in
      let back : filter (ties lt y) (x ∷ xs) ≡ y ∷ filter (ties lt y) ys = sym (same y) ∙ tied y y ys (not_itself y) (not_itself y) in
      let p : lt x y ≡ false = first_kept (λ z. lt z y ≡ false) (ties lt x) (y ∷ ys) x (filter (ties lt x) xs) (not_itself y, vp.0) there in
      let q : lt y x ≡ false = first_kept (λ z. lt z x ≡ false) (ties lt y) (x ∷ xs) y (filter (ties lt y) ys) (not_itself x, up.0) back in
      let both_first : y ∷ filter (ties lt x) ys ≡ x ∷ filter (ties lt x) xs = sym (tied x y ys p q) ∙ there in
      let first : y ≡ x = cc in
      let rest : xs ≡ ys = one_order xs ys up.1 vp.1 (λ z. same_rest (ties lt z x) x (filter (ties lt z) ys) (filter (ties lt z) xs)
      (ap (λ w. cond (ties lt z w) (w ∷ filter (ties lt z) ys) (filter (ties lt z) ys)) (sym first) ∙ same z)) in
      λ i. sym first i ∷ rest i

  pub sorted_is : (xs ys : List X) → IsSortedBy lt ys → IsStableBy lt xs ys → ys ≡ in_order lt xs
  sorted_is xs ys up stable = one_order ys (in_order lt xs) (up_of ys (sorted_far lt o ys up)) (up-sorted xs) (λ z. stable-sorted xs z ∙ sym (stable z))

  pub sorted_itself : (xs : List X) → IsSortedBy lt xs → in_order lt xs ≡ xs
  sorted_itself xs up = sym (sorted_is xs xs up (λ z. refl))

module _ {X Y : Type 0} (lt : Y → Y → Bool) (f : X → Y) where
  placed-map : (x : X) (ys : List X) → map f (with_placed (λ a b. lt (f a) (f b)) x ys) ≡ with_placed lt (f x) (map f ys)
  placed-map x [] = refl
  placed-map x (y ∷ ys) =
      elim (lt (f y) (f x)) as (λ b. map f (cond b (y ∷ with_placed (λ a b. lt (f a) (f b)) x ys) (x ∷ y ∷ ys))
      ≡ cond b (f y ∷ with_placed lt (f x) (map f ys)) (f x ∷ f y ∷ map f ys)) [
        | true ↦ ap (λ rest. f y ∷ rest) (placed-map x ys)
        | false ↦ refl
      ]

  pub sorted-map : (xs : List X) → map f (in_order (λ a b. lt (f a) (f b)) xs) ≡ in_order lt (map f xs)
  sorted-map [] = refl
  sorted-map (x ∷ xs) = placed-map x (in_order (λ a b. lt (f a) (f b)) xs) ∙ ap (with_placed lt (f x)) (sorted-map xs)
