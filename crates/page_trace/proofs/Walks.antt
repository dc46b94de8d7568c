-- A walk over a list by asking for each place, and the tokens of a list.
use Rattle.std.proofs.Common.{◌≡◌, rules, refl, ℕ, zero, suc, ◌+◌, List, [], ◌∷◌, ◌++◌, take, Some, None, slice_get, flat_map}
use Rattle.std.proofs.lemmas.Option.{slice_get_within, get_or_from_slice_get}
use Rattle.std.proofs.lemmas.List.{take_more}
use Rattle.std.proofs.lemmas.Grind.{flat_map-append}
use Rattle.std.proofs.Common.{append_assoc, Result, Ok, Err, OnOk}
use Rattle.json.specs.Token.{Token, key, begin_array, end_array}

taken_one : {X : Type 0} (xs : List X) (i : ℕ) (x : X) → slice_get xs i ≡ Some x → take (i + 1) xs ≡ take i xs ++ x ∷ []
taken_one xs i x is = search (rules, take_more xs i x (slice_get_within xs i x is), get_or_from_slice_get xs i x x is)

pub flat_map_one : {X A : Type 0} (f : X → List A) (xs : List X) (i : ℕ) (x : X) → slice_get xs i ≡ Some x
    → flat_map f (take (i + 1) xs) ≡ flat_map f (take i xs) ++ f x
flat_map_one f xs i x is = search (rules, taken_one xs i x is, flat_map-append f (take i xs) (x ∷ []))

pub walked : {X : Type 0} (xs : List X) (i : ℕ) → slice_get xs i ≡ None → take i xs ≡ xs
walked [] zero is = refl
walked [] (suc i) is = refl
walked (x ∷ xs) zero is = search rules
walked (x ∷ xs) (suc i) is = search (rules, walked xs i is)

-- a list is written: its name, a bracket, its items, and the other bracket
pub listed : {E : Type 0} (r : Result (Unit {0}) E) (name : List ℕ) (items all old a b c new : List Token) → a ≡ old ++ key name ∷ [] → b ≡ a ++ begin_array ∷ []
    → c ≡ b ++ items → items ≡ all → OnOk r (new ≡ c ++ end_array ∷ []) → OnOk r (new ≡ old ++ (key name ∷ (begin_array ∷ (all ++ end_array ∷ []))))
listed (Ok x) name items all old a b c new named begun so_far same done = rw (done, so_far, begun, named, same) (simp append_assoc)
listed (Err e) name items all old a b c new named begun so_far same done = tt
