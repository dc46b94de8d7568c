-- The first item that passes, in what is left of a list.
use Rattle.std.proofs.Common.{◌≡◌, ℕ, ◌+◌, ◌<◌, true, false, Bool, List, drop, length, get_or, refl, Some}
use Rattle.std.specs.Prelude.{find}
use Rattle.std.proofs.lemmas.List.{drop_more}

module _ {X : Type 0} (p : X → Bool) (xs : List X) (i : ℕ) (x d : X) (within : i < length xs) (is : x ≡ get_or xs i d) where
  pub find-here : p x ≡ true → find p (drop i xs) ≡ Some x
  find-here h = rw (drop_more xs i d within, ← is, h) refl

  pub find-more : p x ≡ false → find p (drop i xs) ≡ find p (drop (i + 1) xs)
  find-more h = rw (drop_more xs i d within, ← is, h) refl
