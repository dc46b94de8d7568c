-- Lemmas on a walk up to its first fault.
use Rattle.std.proofs.Common.{◌≡◌, ℕ, ◌+◌, List, [], ◌∷◌, ◌++◌, ◌∙◌, Ok, Err, refl, sym, ap, map, append_assoc}
use Rattle.std.specs.Prelude.{String, string_bytes}
use Rattle.std.specs.declared.alloc.Global.{Global}
use Rattle.serde_json.specs.Data.{Data}
use Rattle.serde_json.specs.View.{view, items_view, members_view}
use Rattle.serde_json.specs.declared.value.Value.{Value}
use Rattle.site_import.specs.Walks.{Read, and_read, each_from, list_of, members_of}

-- what a walk reads, after what was read before it
abbrev pub in_front : {B : Type 0} → List B → Read (List B) → Read (List B)
in_front before (Ok rest) = Ok (before ++ rest)
in_front before (Err fault) = Err fault

pub in_front-one : {B : Type 0} (before : List B) (one : B) (walk : Read (List B))
    → in_front before (and_read walk (λ rest. Ok (one ∷ rest))) ≡ in_front (before ++ one ∷ []) walk
in_front-one before one (Ok rest) = ap Ok (sym (append_assoc before (one ∷ []) rest))
in_front-one before one (Err fault) = refl

-- one member of an object on
pub members_step : {B : Type 0} (reads : ℕ → (List ℕ × Data) → Read B) (walk : Read (List B)) (found : List B) (one : B) (n : ℕ) (name : String Global)
    (value : Value) (s t : List (String Global × Value))
    → walk ≡ in_front found (each_from reads n (members_of (members_view s))) → s ≡ (name, value) ∷ t → reads n (string_bytes name, view value) ≡ Ok one
    → walk ≡ in_front (found ++ one ∷ []) (each_from reads (n + 1) (members_of (members_view t)))
members_step reads walk found one n name value s t before cut read =
    let rest = each_from reads (n + 1) (members_of (members_view t)) in
    before ∙ ap (λ l. in_front found (each_from reads n (members_of (members_view l)))) cut
    ∙ ap (λ r. in_front found (and_read r (λ first. and_read rest (λ more. Ok (first ∷ more))))) read ∙ in_front-one found one rest

-- the items of an array, as they are seen
pub list_of_view : (values : List Value) → list_of (items_view values) ≡ map view values
list_of_view [] = refl
list_of_view (value ∷ values) = ap (λ l. view value ∷ l) (list_of_view values)
