-- Each tag has a name of its form.
use Rattle.std.proofs.Common.{◌≡◌, ℕ, zero, suc, true, false, Bool, cond, ◌&&◌, List, [], ◌∷◌, map, take, ◌+◌, ◌++◌, add-one, refl, ap, sym, subst, ◌∙◌}
use Rattle.std.proofs.Common.{Some, inl, inr}
use Rattle.std.specs.Prelude.{bytes_eq, slice_get, is_some, if◌then◌else◌}
use Rattle.std.specs.List.{list_all}
use Rattle.std.proofs.lemmas.Bool.{cases_Bool, cond-false, false≢true}
use Rattle.std.proofs.lemmas.Slice.Eq.{bytes_eq-Decides}
use Rattle.plain_data.specs.Names.{is_tag_name}
use Rattle.hook_registry.specs.Named.{value_of, set_value, remove_value}

and_left : (a b : Bool) → (a && b) ≡ true → a ≡ true
and_left true b e = refl
and_left false b e = e

and_right : (a b : Bool) → (a && b) ≡ true → b ≡ true
and_right true b e = e
and_right false b e = cc

and_both : (a b : Bool) → a ≡ true → b ≡ true → (a && b) ≡ true
and_both a b e f = rw (e, f) refl

module _ {X : Type 0} where
  -- whether each name is a tag's
  abbrev pub are_tags : List (List ℕ × X) → Bool
  are_tags pairs = list_all (λ p. is_tag_name p.0) pairs

  pub are_tags-set : (pairs : List (List ℕ × X)) (name : List ℕ) (value : X) → is_tag_name name ≡ true → are_tags pairs ≡ true
      → are_tags (set_value pairs name value) ≡ true
  are_tags-set [] name value n h = and_both (is_tag_name name) true n refl
  are_tags-set (p ∷ ps) name value n h =
      elim (bytes_eq name p.0) as (λ b. are_tags (if b then (p.0, value) ∷ ps else p ∷ set_value ps name value) ≡ true) [
        | true ↦ h
        | false ↦ and_both (is_tag_name p.0) (are_tags (set_value ps name value)) (and_left (is_tag_name p.0) (are_tags ps) h)
            (are_tags-set ps name value n (and_right (is_tag_name p.0) (are_tags ps) h))
      ]

  pub are_tags-remove : (pairs : List (List ℕ × X)) (name : List ℕ) → are_tags pairs ≡ true → are_tags (remove_value pairs name) ≡ true
  are_tags-remove [] name h = h
  are_tags-remove (p ∷ ps) name h =
      elim (bytes_eq name p.0) as (λ b. are_tags (cond b ps (p ∷ remove_value ps name)) ≡ true) [
        | true ↦ and_right (is_tag_name p.0) (are_tags ps) h
        | false ↦ and_both (is_tag_name p.0) (are_tags (remove_value ps name)) (and_left (is_tag_name p.0) (are_tags ps) h)
            (are_tags-remove ps name (and_right (is_tag_name p.0) (are_tags ps) h))
      ]

  -- the name at a place is a tag's
  pub is_tag-at : (pairs : List (List ℕ × X)) (at : ℕ) (name : List ℕ) → are_tags pairs ≡ true → slice_get (map (λ p. p.0) pairs) at ≡ Some name
      → is_tag_name name ≡ true
  is_tag-at [] at name h e = cc
  is_tag-at (p ∷ ps) zero name h e = let same : p.0 ≡ name = cc in rw (← same) (and_left (is_tag_name p.0) (are_tags ps) h)
  is_tag-at (p ∷ ps) (suc at) name h e = is_tag-at ps at name (and_right (is_tag_name p.0) (are_tags ps) h) e

  -- a name that has a value is a tag's
  pub is_tag-named : (pairs : List (List ℕ × X)) (name : List ℕ) → are_tags pairs ≡ true → is_some (value_of pairs name) ≡ true → is_tag_name name ≡ true
  is_tag-named [] name h e = absurd (false≢true e)
  is_tag-named (p ∷ ps) name h e =
      elim (cases_Bool (bytes_eq name p.0)) [
        | inl is ↦ subst (λ n. is_tag_name n ≡ true) (sym ((bytes_eq-Decides name p.0).0 is)) (and_left (is_tag_name p.0) (are_tags ps) h)
        | inr is_not ↦ is_tag-named ps name (and_right (is_tag_name p.0) (are_tags ps) h)
            (sym (ap is_some (cond-false (bytes_eq name p.0) (Some p.1) (value_of ps name) is_not)) ∙ e)
      ]

  names-suc : (pairs : List (List ℕ × X)) (at : ℕ) (name : List ℕ) → slice_get (map (λ p. p.0) pairs) at ≡ Some name
      → map (λ p. p.0) (take at pairs) ++ name ∷ [] ≡ map (λ p. p.0) (take (suc at) pairs)
  names-suc [] at name e = cc
  names-suc (p ∷ ps) zero name e = let same : p.0 ≡ name = cc in ap (λ n. n ∷ []) (sym same)
  names-suc (p ∷ ps) (suc at) name e = ap (λ ns. p.0 ∷ ns) (names-suc ps at name e)

  -- one more name
  pub names-more : (pairs : List (List ℕ × X)) (at : ℕ) (name : List ℕ) → slice_get (map (λ p. p.0) pairs) at ≡ Some name
      → map (λ p. p.0) (take at pairs) ++ name ∷ [] ≡ map (λ p. p.0) (take (at + 1) pairs)
  names-more pairs at name e = rw add-one (names-suc pairs at name e)
