-- The numbers of the callbacks, one after another.
use Rattle.std.proofs.Common.{rules, ◌≡◌, ℕ, ◌+◌, ◌<◌, List, [], ◌∷◌, ◌++◌, length, map, take, slice_index_or}
use Rattle.std.proofs.lemmas.List.{map-append, take_more}

-- one more callback has the next number
pub one_more : {X : Type 0} (id : X → ℕ) (old new : List X) (x : X) (numbers : List ℕ) (i : ℕ) → new ≡ old ++ x ∷ [] → id x ≡ slice_index_or numbers i 0
    → i < length numbers
    → map id old ≡ take i numbers → map id new ≡ take (i + 1) numbers
one_more id old new x numbers i pushed numbered inside so_far = search (rules, pushed, numbered, so_far, map-append, take_more numbers i 0 inside)
