-- Lemmas on lists that are read one tree after another.
use Rattle.std.proofs.Common.{◌≡◌, ◌∙◌, ℕ, ◌+◌, ◌<◌, ◌≤◌, List, [], ◌∷◌, ◌++◌, length, get_or, drop, Option}
use Rattle.std.proofs.Common.{Some, None, option_map, option_and_then, refl, sym, ap, append_assoc}
use Rattle.std.proofs.Common.{append-nil}
use Rattle.std.proofs.lemmas.List.{drop_more, drop_all}
use Rattle.serde_json.specs.Data.{Data}
use Rattle.serde_json.specs.View.{view, items_view}
use Rattle.serde_json.specs.declared.value.Value.{Value}
use Rattle.template_trees.specs.Trees.{all_of}

-- what a list is, of which these were read before the rest
abbrev pub in_front : {A : Type 0} → List A → Option (List A) → Option (List A)
in_front before None = None
in_front before (Some rest) = Some (before ++ rest)

pub in_front-nil : {A : Type 0} → (rest : Option (List A)) → in_front [] rest ≡ rest
in_front-nil None = refl
in_front-nil (Some rest) = refl

in_front-more : {A : Type 0} → (before : List A) (one : A) (rest : Option (List A))
    → in_front before (option_map (λ more. one ∷ more) rest) ≡ in_front (before ++ one ∷ []) rest
in_front-more before one None = refl
in_front-more before one (Some rest) = ap Some (sym (append_assoc before (one ∷ []) rest))

all_of-drop : {A : Type 0} → (is : Data → Option A) (values : List Value) (i : ℕ) (d : Value) → i < length values
    → all_of is (items_view (drop i values)) ≡ option_and_then (λ first. option_map (λ rest. first ∷ rest) (all_of is (items_view (drop (i + 1) values))))
    (is (view (get_or values i d)))
unfolding all_of
all_of-drop is values i d h = ap (λ l. all_of is (items_view l)) (drop_more values i d h)

-- one more was read
pub one_more : {A : Type 0} → (is : Data → Option A) (values : List Value) (i : ℕ) (value : Value) (before : List A) (one : A) (whole : Option (List A))
    → i < length values → value ≡ get_or values i value
    → Some one ≡ is (view value) → whole ≡ in_front before (all_of is (items_view (drop i values)))
    → whole ≡ in_front (before ++ one ∷ []) (all_of is (items_view (drop (i + 1) values)))
one_more is values i value before one whole h at read so_far =
    let e : is (view (get_or values i value)) ≡ Some one = cc in
    so_far ∙ rw (all_of-drop is values i value h, e) (in_front-more before one (all_of is (items_view (drop (i + 1) values))))

-- one value isn't of the kind, and so the whole list isn't read
pub none_there : {A : Type 0} → (is : Data → Option A) (values : List Value) (i : ℕ) (value : Value) (before : List A) (whole : Option (List A))
    → i < length values → value ≡ get_or values i value
    → None ≡ is (view value) → whole ≡ in_front before (all_of is (items_view (drop i values))) → None ≡ whole
none_there is values i value before whole h at read so_far =
    let e : is (view (get_or values i value)) ≡ None = cc in
    sym (so_far ∙ rw (all_of-drop is values i value h, e))

-- all were read
pub all_read : {A : Type 0} → (is : Data → Option A) (values : List Value) (i : ℕ) (all : List A) (whole : Option (List A)) → length values ≤ i
    → whole ≡ in_front all (all_of is (items_view (drop i values))) → Some all ≡ whole
unfolding all_of
all_read is values i all whole h so_far =
    let e = so_far ∙ ap (λ rest. in_front all (all_of is (items_view rest))) (drop_all i values h) in
    sym (e ∙ ap Some (append-nil all))
