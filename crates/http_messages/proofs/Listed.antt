-- Looking for a tag in a list, one element at a time.
use Rattle.std.proofs.Common.{◌≡◌, ℕ, suc, Bool, true, false, ◌||◌, List, [], ◌∷◌, take, drop, refl, ap, ◌∙◌}
use Rattle.std.specs.List.{list_any}
use Rattle.httparse.specs.Grammar.{trim_ows}
use Rattle.http1.specs.Fields.{elements}

or_false : (t : Bool) → t || false ≡ t
or_false true = refl
or_false false = refl

module _ (p : List ℕ → Bool) (rest : List ℕ) where
  -- the first element, and those after it
  pub any_at : (at : ℕ) (t : Bool) → elements rest ≡ trim_ows (take at rest) ∷ elements (drop (suc at) rest) → p (trim_ows (take at rest)) ≡ t
      → list_any p (elements rest) ≡ t || list_any p (elements (drop (suc at) rest))
  any_at at t split first =
      ap (list_any p) split ∙ ap (λ (u : Bool). u || list_any p (elements (drop (suc at) rest))) first

  -- the last one
  pub any_last : elements rest ≡ trim_ows rest ∷ [] → list_any p (elements rest) ≡ p (trim_ows rest)
  any_last whole = ap (list_any p) whole ∙ or_false (p (trim_ows rest))
