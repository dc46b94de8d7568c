-- What stays true of a list once its first item is taken.
use Rattle.std.proofs.Common.{ℕ, zero, suc, List, [], ◌∷◌, drop}
use Rattle.std.specs.List.{AllByRecursion}

pub all_after : {A : Type 0} (P : A → Type 0) (i : ℕ) (xs : List A) → AllByRecursion P (drop i xs) → AllByRecursion P (drop (suc i) xs)
all_after P zero [] h = tt
all_after P zero (x ∷ xs) h = h.1
all_after P (suc i) [] h = tt
all_after P (suc i) (x ∷ xs) h = all_after P i xs h
