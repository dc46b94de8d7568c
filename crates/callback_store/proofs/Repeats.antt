-- Going through a list from the left, to see whether an item is repeated in it.
use Rattle.std.proofs.Common.{◌≡◌, ℕ, ◌+◌, ◌<◌, true, false, Bool, not, ◌||◌, ◌==◌, List, [], ◌∷◌, ◌++◌, map, take, drop, length, get_or, ◌≤◌, refl, ap}
use Rattle.std.proofs.Common.{sym, ◌∙◌}
use Rattle.std.specs.List.{list_any}
use Rattle.std.proofs.lemmas.List.{drop_more, take_more, drop_all}
use Rattle.std.proofs.lemmas.List.Folds.{list_any-append}
use Rattle.indexmap.specs.IndexSet.{insert_key}
use Rattle.callback_store.specs.Faults.{has_repeat}
use Rattle.callback_store.proofs.Mapped.{list_any-map}

or_false : (a : Bool) → (a || false) ≡ a
or_false true = refl
or_false false = refl

or_swap : (a b c d : Bool) → ((a || b) || (c || d)) ≡ ((a || c) || (b || d))
or_swap true b c d = refl
or_swap false true true d = refl
or_swap false true false d = refl
or_swap false false c d = refl

module _ {X : Type 0} where
  any_or : (p q : X → Bool) (xs : List X) → (list_any p xs || list_any q xs) ≡ list_any (λ x. p x || q x) xs
  any_or p q [] = refl
  any_or p q (x ∷ xs) = or_swap (p x) (list_any p xs) (q x) (list_any q xs) ∙ ap (λ b. (p x || q x) || b) (any_or p q xs)

  any_false : (xs : List X) → list_any (λ x. false) xs ≡ false
  any_false [] = refl
  any_false (x ∷ xs) = any_false xs

  any_same : (p q : X → Bool) → ((x : X) → p x ≡ q x) → (xs : List X) → list_any p xs ≡ list_any q xs
  any_same p q e [] = refl
  any_same p q e (x ∷ xs) = rw (e x, any_same p q e xs) refl

module _ {X : Type 0} (eq : X → X → Bool) where
  -- an item of the rest is among those seen, or is repeated in the rest
  abbrev pub repeats : List X → List X → Bool
  repeats seen rest = list_any (λ y. list_any (eq y) seen) rest || has_repeat eq rest

  pub repeats-start : (xs : List X) → has_repeat eq xs ≡ repeats [] xs
  repeats-start xs = rw (any_false xs) refl

  pub repeats-here : (seen rest : List X) (x : X) → list_any (eq x) seen ≡ true → repeats seen (x ∷ rest) ≡ true
  repeats-here seen rest x h = rw h refl

  one_more : (seen : List X) (x y : X) → (list_any (eq y) seen || eq y x) ≡ list_any (eq y) (seen ++ x ∷ [])
  one_more seen x y = rw (list_any-append (eq y) seen (x ∷ []), or_false (eq y x)) refl

  or_turn : (a b c : Bool) → (a || (b || c)) ≡ ((a || b) || c)
  or_turn true b c = refl
  or_turn false b c = refl

  pub repeats-more : (seen rest : List X) (x : X) → list_any (eq x) seen ≡ false → repeats seen (x ∷ rest) ≡ repeats (seen ++ x ∷ []) rest
  repeats-more seen rest x h =
      rw h (or_turn (list_any (λ y. list_any (eq y) seen) rest) (list_any (λ y. eq y x) rest) (has_repeat eq rest)
      ∙ ap (λ b. b || has_repeat eq rest)
      (any_or (λ y. list_any (eq y) seen) (λ y. eq y x) rest ∙ any_same (λ y. list_any (eq y) seen || eq y x) (λ y. list_any (eq y) (seen ++ x ∷ []))
      (one_more seen x) rest))

module _ {X Y : Type 0} (eq : Y → Y → Bool) (h : X → Y) where
  pub has_repeat-map : (xs : List X) → has_repeat eq (map h xs) ≡ has_repeat (λ x y. eq (h x) (h y)) xs
  has_repeat-map [] = refl
  has_repeat-map (x ∷ xs) = rw (list_any-map (λ y. eq y (h x)) h xs, has_repeat-map xs) refl

-- the same at a place of a list
module _ {X : Type 0} (eq : X → X → Bool) (xs : List X) (i : ℕ) (x d : X) (within : i < length xs) (is : x ≡ get_or xs i d) where
  pub repeats-here_at : list_any (eq x) (take i xs) ≡ true → repeats eq (take i xs) (drop i xs) ≡ true
  repeats-here_at h = rw (drop_more xs i d within, ← is) (repeats-here eq (take i xs) (drop (i + 1) xs) x h)

  pub repeats-more_at : list_any (eq x) (take i xs) ≡ false → repeats eq (take i xs) (drop i xs) ≡ repeats eq (take (i + 1) xs) (drop (i + 1) xs)
  repeats-more_at h =
      ap (repeats eq (take i xs)) (drop_more xs i d within ∙ ap (λ y. y ∷ drop (i + 1) xs) (sym is))
      ∙ repeats-more eq (take i xs) (drop (i + 1) xs) x h
      ∙ ap (λ seen. repeats eq seen (drop (i + 1) xs)) (sym (take_more xs i d within ∙ ap (λ y. take i xs ++ y ∷ []) (sym is)))

module _ {X : Type 0} (eq : X → X → Bool) where
  pub repeats-end : (seen xs : List X) (i : ℕ) → length xs ≤ i → repeats eq seen (drop i xs) ≡ false
  repeats-end seen xs i h = rw (drop_all i xs h) refl

not_true : (b : Bool) → not b ≡ true → b ≡ false
not_true true e = sym e
not_true false e = refl

-- a set that has the numbers passed, once the next one is new to it
module _ (xs seen new : List ℕ) (i : ℕ) (added : Bool) (passed : seen ≡ take i xs) where
  pub is_new : added ≡ true → added ≡ not (list_any (λ k. get_or xs i 0 == k) seen) → list_any (λ k. get_or xs i 0 == k) (take i xs) ≡ false
  is_new t e = rw (← passed) (not_true (list_any (λ k. get_or xs i 0 == k) seen) (sym e ∙ t))

  pub seen-more : i < length xs → added ≡ true → added ≡ not (list_any (λ k. get_or xs i 0 == k) seen) → new ≡ insert_key (λ m n. m == n) seen (get_or xs i 0)
      → new ≡ take (i + 1) xs
  seen-more h t e n = n ∙ rw (not_true (list_any (λ k. get_or xs i 0 == k) seen) (sym e ∙ t))
      (ap (λ l. l ++ get_or xs i 0 ∷ []) passed ∙ sym (take_more xs i 0 h))
