-- A map of names, seen as pairs of bytes and values.
use Rattle.std.proofs.Common.{◌≡◌, ℕ, zero, suc, true, false, Bool, cond, List, [], ◌∷◌, map, String, string_bytes, refl, ap, Some}
use Rattle.std.specs.Prelude.{bytes_eq, string_eq, slice_get}
use Rattle.std.specs.Map.{lookup}
use Rattle.indexmap.specs.IndexMap.{insert_entry, shift_remove_entry}
use Rattle.hook_registry.specs.Named.{value_of, set_value, remove_value}

-- whether a key is the name
abbrev pub named : {Y : Type 0} → List ℕ → String Y → Bool
named name key = bytes_eq name (string_bytes key)

module _ {Y X : Type 0} where
  abbrev pub pairs : List (String Y × X) → List (List ℕ × X)
  pairs es = map (λ e. (string_bytes e.0, e.1)) es

  pub lookup-pairs : (name : List ℕ) (es : List (String Y × X)) → lookup (named name) es ≡ value_of (pairs es) name
  lookup-pairs name [] = refl
  lookup-pairs name (e ∷ es) =
      elim (bytes_eq name (string_bytes e.0)) as (λ b. cond b (Some e.1) (lookup (named name) es) ≡ cond b (Some e.1) (value_of (pairs es) name))
      [ true ↦ refl | false ↦ lookup-pairs name es ]

  pub insert_entry-pairs : (es : List (String Y × X)) (k : String Y) (v : X) → pairs (insert_entry string_eq es k v) ≡ set_value (pairs es) (string_bytes k) v
  insert_entry-pairs [] k v = refl
  insert_entry-pairs (e ∷ es) k v =
      elim (bytes_eq (string_bytes k) (string_bytes e.0)) as (λ b. pairs (cond b ((e.0, v) ∷ es) (e ∷ insert_entry string_eq es k v))
      ≡ cond b ((string_bytes e.0, v) ∷ pairs es) ((string_bytes e.0, e.1) ∷ set_value (pairs es) (string_bytes k) v))
      [ true ↦ refl | false ↦ ap (λ ps. (string_bytes e.0, e.1) ∷ ps) (insert_entry-pairs es k v) ]

  pub remove_entry-pairs : (name : List ℕ) (es : List (String Y × X)) → pairs (shift_remove_entry (named name) es) ≡ remove_value (pairs es) name
  remove_entry-pairs name [] = refl
  remove_entry-pairs name (e ∷ es) =
      elim (bytes_eq name (string_bytes e.0)) as (λ b. pairs (cond b es (e ∷ shift_remove_entry (named name) es))
      ≡ cond b (pairs es) ((string_bytes e.0, e.1) ∷ remove_value (pairs es) name))
      [ true ↦ refl | false ↦ ap (λ ps. (string_bytes e.0, e.1) ∷ ps) (remove_entry-pairs name es) ]

  pub name-at : (es : List (String Y × X)) (at : ℕ) (key : String Y) (value : X) → Some (key, value) ≡ slice_get es at
      → slice_get (map (λ p. p.0) (pairs es)) at ≡ Some (string_bytes key)
  name-at [] at key value e = cc
  name-at (x ∷ es) zero key value e = let same : x ≡ (key, value) = cc in ap (λ y. Some (string_bytes y.0)) same
  name-at (x ∷ es) (suc at) key value e = name-at es at key value e
