-- Lists in the order of a key, seen through a function.
use Rattle.std.proofs.Common.{◌+◌, ◌<◌, Ordering, List, [], ◌∷◌, map, length, arith}
use Rattle.std.specs.List.Sorted.{IsSortedByKey}
use Rattle.std.proofs.lemmas.List.{get_or-map, length-map}

module _ {X Y K : Type 0} (h : X → Y) (key : Y → K) (cmp : K → K → Ordering) where
  pub in_order-map : (xs : List X) → IsSortedByKey (λ x. key (h x)) cmp xs → IsSortedByKey key cmp (map h xs)
  in_order-map [] up k d low within = absurd (omega arith)
  in_order-map (x ∷ xs) up k d low within =
      let inside : k + 1 < length (x ∷ xs) = omega (arith, length-map (x ∷ xs) h) in
      rw (get_or-map h (x ∷ xs) (k + 1) x d inside, get_or-map h (x ∷ xs) k x d (omega arith)) (up k x low inside)
