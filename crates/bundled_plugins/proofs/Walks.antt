-- A walk over a list by asking for each place.
use Rattle.std.proofs.Common.{◌≡◌, rules, refl, ℕ, zero, suc, ◌+◌, List, [], ◌∷◌, ◌++◌, take, Some, None, slice_get, flat_map, codes}
use Rattle.bundled_plugins.specs.Replies.{named_listed}
use Rattle.std.proofs.lemmas.Option.{slice_get_within, get_or_from_slice_get}
use Rattle.std.proofs.lemmas.List.{take_more}
use Rattle.std.proofs.lemmas.List.{append_assoc}
use Rattle.std.proofs.lemmas.Grind.{flat_map-append}

pub taken_one : {X : Type 0} (xs : List X) (i : ℕ) (x : X) → slice_get xs i ≡ Some x → take (i + 1) xs ≡ take i xs ++ x ∷ []
taken_one xs i x is = search (rules, take_more xs i x (slice_get_within xs i x is), get_or_from_slice_get xs i x x is)

pub flat_map_one : {X A : Type 0} (f : X → List A) (xs : List X) (i : ℕ) (x : X) → slice_get xs i ≡ Some x
    → flat_map f (take (i + 1) xs) ≡ flat_map f (take i xs) ++ f x
flat_map_one f xs i x is = search (rules, taken_one xs i x is, flat_map-append f (take i xs) (x ∷ []))

pub walked : {X : Type 0} (xs : List X) (i : ℕ) → slice_get xs i ≡ None → take i xs ≡ xs
walked [] zero is = refl
walked [] (suc i) is = refl
walked (x ∷ xs) zero is = search rules
walked (x ∷ xs) (suc i) is = search (rules, walked xs i is)

-- one attribute more, after a text that has those before it
pub named_more : (named : List (List ℕ × List ℕ)) (i : ℕ) (p : List ℕ × List ℕ) → slice_get named i ≡ Some p → (start text later : List ℕ)
    → text ≡ start ++ named_listed (take i named) → later ≡ text ++ (p.0 ++ 61 ∷ (p.1 ++ 59 ∷ [])) → later ≡ start ++ named_listed (take (i + 1) named)
named_more named i p is start text later before following =
    search (rules, before, following, flat_map_one (λ pair. pair.0 ++ codes "=" ++ pair.1 ++ codes ";") named i p is, append_assoc)
