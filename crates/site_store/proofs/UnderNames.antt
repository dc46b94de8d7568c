-- What is kept under a name.
use Rattle.std.proofs.Common.{◌≡◌, ◌∙◌, inl, inr, List, [], ◌∷◌, Some, None, refl, sym, ap}
use Rattle.std.specs.Prelude.{All, find, option_map, bytes_eq, Option, Result, Ok, Err, IfOk, IfSome}
use Rattle.std.proofs.lemmas.Bool.{cases_Bool}
use Rattle.std.proofs.lemmas.List.Elements.{All-head, All-tail, All-contains}
use Rattle.std.proofs.lemmas.Slice.Eq.{bytes_eq-Decides}
use Rattle.std.specs.Map.{lookup}
use Rattle.lru.proofs.CallerLemmas.{Contains-lookup}
use Rattle.plain_data.specs.Texts.{Text}

some_is : {A : Type 0} (x y : A) → Some x ≡ Some y → x ≡ y
some_is x y is = let same = is in cc

-- it is what was kept of that name
pub kept_is : {A : Type 0} (of : Text → A) (kept : List (Text × A)) (name : Text) (x : A) → All (λ t. t.1 ≡ of t.0) kept
    → Some x ≡ option_map (λ t. t.1) (find (λ t. bytes_eq t.0 name) kept) → x ≡ of name
kept_is of [] name x all is = absurd (let none = is in cc)
kept_is of (t ∷ kept) name x all is =
    elim (cases_Bool (bytes_eq t.0 name)) [
      | inl same ↦
          let first : option_map (λ t. t.1) (find (λ t. bytes_eq t.0 name) (t ∷ kept)) ≡ Some t.1 = rw same refl in
          some_is _ _ (is ∙ first) ∙ All-head (λ t. t.1 ≡ of t.0) t kept all ∙ ap of ((bytes_eq-Decides t.0 name).0 same)
      | inr other ↦
          let later : option_map (λ t. t.1) (find (λ t. bytes_eq t.0 name) (t ∷ kept)) ≡ option_map (λ t. t.1) (find (λ t. bytes_eq t.0 name) kept) =
          rw other refl in
          kept_is of kept name x (All-tail (λ t. t.1 ≡ of t.0) t kept all) (is ∙ later)
    ]

-- the same where it is looked up among entries
kept_at : {A : Type 0} (of : Text → A) (kept : List (Text × A)) (name : Text) (x : A) → All (λ t. t.1 ≡ of t.0) kept
    → Some x ≡ lookup (bytes_eq name) kept → x ≡ of name
kept_at of kept name x all is =
    let found = Contains-lookup (bytes_eq name) kept x (sym is) in
    All-contains (λ t. t.1 ≡ of t.0) kept (found.0, x) all found.1 ∙ ap of (sym ((bytes_eq-Decides name found.0).0 found.2))

-- and if it may be that nothing is kept there, or that the look-up fails
pub known_is : {A E : Type 0} (of : Text → A) (kept : List (Text × A)) (name : Text) → All (λ t. t.1 ≡ of t.0) kept
    → (result : Result (Option A) E) → IfOk result (λ found. found ≡ lookup (bytes_eq name) kept) → IfOk result (λ known. IfSome known (λ x. x ≡ of name))
known_is of kept name all (Ok (Some x)) is = kept_at of kept name x all is
known_is of kept name all (Ok None) is = tt
known_is of kept name all (Err fault) is = tt
