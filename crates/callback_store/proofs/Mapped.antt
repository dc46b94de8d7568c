-- Lists that are seen through a function.
use Rattle.std.proofs.Common.{◌≡◌, true, false, Bool, ◌||◌, List, [], ◌∷◌, map, refl, ap, Some}
use Rattle.std.specs.Prelude.{find, is_some, option_map, if◌then◌else◌}
use Rattle.std.specs.List.{list_any}
use Rattle.std.specs.Borrow.{Bor}

module _ {X Y : Type 0} (p : Y → Bool) (h : X → Y) where
  pub list_any-map : (xs : List X) → list_any p (map h xs) ≡ list_any (λ x. p (h x)) xs
  list_any-map [] = refl
  list_any-map (x ∷ xs) = ap (λ b. p (h x) || b) (list_any-map xs)

  pub find-map : (xs : List X) → find p (map h xs) ≡ option_map h (find (λ x. p (h x)) xs)
  find-map [] = refl
  find-map (x ∷ xs) =
      elim (p (h x)) as (λ b. (if b then Some (h x) else find p (map h xs)) ≡ option_map h (if b then Some x else find (λ x. p (h x)) xs)) [
        | true ↦ refl
        | false ↦ find-map xs
      ]

module _ {X : Type 0} (p : X → Bool) where
  -- something is found exactly if something passes
  pub is_some-find : (xs : List X) → is_some (find p xs) ≡ list_any p xs
  is_some-find [] = refl
  is_some-find (x ∷ xs) =
      elim (p x) as (λ b. is_some (if b then Some x else find p xs) ≡ (b || list_any p xs)) [ true ↦ refl | false ↦ is_some-find xs ]

-- a function of what is borrowed
pub map-now : {X Y : Type 0} (f : X → Y) (xs : List (Bor X)) → map (λ x. f x.now) xs ≡ map f (map (λ x. x.now) xs)
map-now f [] = refl
map-now f (x ∷ xs) = ap (λ ys. f x.now ∷ ys) (map-now f xs)
