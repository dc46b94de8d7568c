-- Attributes that are empty.
use Rattle.std.proofs.Common.{◌≡◌, ℕ, true, false, ◌==◌, List, [], ◌∷◌, length, Option, None, Some, refl, sym}
use Rattle.std.specs.Prelude.{map, is_some, option_map}
use Rattle.std.specs.List.{slice_get}
use Rattle.std.proofs.lemmas.Bool.{eqb-true}
use Rattle.std.specs.Str.{chars}
use Rattle.shortcode_atts.specs.Items.{items_within}
use Rattle.shortcode_atts.specs.Attributes.{Attributes, attributes, no_attributes}

none_there : {A B : Type 0} (f : A → B) (first : Option A) (xs : List B) → is_some first ≡ false → option_map f first ≡ slice_get xs 0 → xs ≡ []
none_there f (Some a) xs h e = absurd (cc)
none_there f None [] h e = refl
none_there f None (x ∷ xs) h e = absurd (cc)

none_left : {A B : Type 0} (f : A → B) (xs : List A) (ys : List B) → map f xs ≡ ys → length xs ≡ 0 → ys ≡ []
none_left f [] ys e h = sym e
none_left f (x ∷ xs) ys e h = absurd (cc)

-- there is no first pair, and there are no values without a name
pub nothing : {A B : Type 0} (g : A → List ℕ × List ℕ) (first : Option A) (f : B → List ℕ) (xs : List B) (a : Attributes)
    → is_some first ≡ false → option_map g first ≡ slice_get a.named 0 → map f xs ≡ a.positional → (length xs == 0) ≡ true → a ≡ no_attributes
nothing g first f xs a n p e h =
    λ i. record { named = none_there g first a.named n p i; positional = none_left f xs a.positional e (eqb-true _ _ h) i }

-- no bytes spell no attributes
of_no_bytes : attributes [] ≡ no_attributes
unfolding attributes items_within chars
of_no_bytes = refl

-- a text of no length spells no attributes
of_no_length : (text : List ℕ) → length text ≡ 0 → attributes text ≡ no_attributes
of_no_length [] h = of_no_bytes
of_no_length (x ∷ xs) h = absurd (cc)

-- an empty text spells no attributes
pub spelled_by_nothing : (text : List ℕ) → (length text == 0) ≡ true → attributes text ≡ no_attributes
spelled_by_nothing text h = of_no_length text (eqb-true _ _ h)
