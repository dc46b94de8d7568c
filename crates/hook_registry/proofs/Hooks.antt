-- A map of hooks, seen as a table.
use Rattle.std.proofs.Common.{◌≡◌, ℕ, zero, suc, true, false, Bool, cond, not, ◌<◌, ◌+◌, length, subst, arith, List, [], ◌∷◌, filter, String, string_bytes}
use Rattle.std.proofs.Common.{refl, ap, sym, ◌∙◌, Some, None}
use Rattle.std.specs.Prelude.{unwrap_or, bytes_eq, string_eq, position, slice_get, Result, Ok, Err, OnOk, OnErr}
use Rattle.std.specs.List.{position_or_len}
use Rattle.std.specs.Map.{lookup, keys_of, values_of}
use Rattle.indexmap.specs.IndexMap.{insert_entry, set_value_at}
use Rattle.indexmap.proofs.MapLemmas.{Found-position, Missing-position}
use Rattle.hook_registry.specs.declared.registration.Registration.{Registration}
use Rattle.hook_registry.specs.Named.{value_of, set_value}
use Rattle.hook_registry.specs.Table.{registrations, with_added, add, keeping}
use Rattle.hook_registry.proofs.NamedValues.{named, pairs, lookup-pairs, insert_entry-pairs}

one_more : (n : ℕ) → 1 + n ≡ suc n
one_more n = omega arith

module _ {Y : Type 0} where
  pub registrations-found : (hook : List ℕ) (es : List (String Y × List Registration)) (v : List Registration) → Some v ≡ lookup (named hook) es
      → v ≡ registrations (pairs es) hook
  registrations-found hook es v e = ap (λ o. unwrap_or o []) (e ∙ lookup-pairs hook es)

  pub registrations-missing : (hook : List ℕ) (es : List (String Y × List Registration)) → None ≡ lookup (named hook) es → [] ≡ registrations (pairs es) hook
  registrations-missing hook es e = ap (λ o. unwrap_or o []) (e ∙ lookup-pairs hook es)

  -- the first key that is the hook's name is at a place
  abbrev pub IsFirstAt : List ℕ → List (String Y × List Registration) → ℕ → Type 0
  IsFirstAt hook [] i = ⊥
  IsFirstAt hook (e ∷ es) zero = named hook e.0 ≡ true
  IsFirstAt hook (e ∷ es) (suc i) = (named hook e.0 ≡ false) × IsFirstAt hook es i

  first_from : (hook : List ℕ) (es : List (String Y × List Registration)) (i : ℕ) → position_or_len (named hook) (keys_of es) ≡ i → i < length es
      → IsFirstAt hook es i
  first_from hook [] i p h = absurd (omega arith)
  first_from hook (e ∷ es) i p h =
      elim (named hook e.0) as (λ b. named hook e.0 ≡ b → cond (not b) (1 + position_or_len (named hook) (keys_of es)) 0 ≡ i → IsFirstAt hook (e ∷ es) i) [
        | true ↦ λ t q. subst (IsFirstAt hook (e ∷ es)) q t
        | false ↦ λ f q.
            let n : ℕ = position_or_len (named hook) (keys_of es) in
            let next : suc n ≡ i = sym (one_more n) ∙ q in
            let within : n < length es = omega (arith, next) in
            subst (IsFirstAt hook (e ∷ es)) next (f, first_from hook es n refl within)
      ] refl p

  pub is_first_at : (hook : List ℕ) (es : List (String Y × List Registration)) (i : ℕ) → position (named hook) (keys_of es) ≡ Some i → IsFirstAt hook es i
  is_first_at hook es i e = let f = Found-position (named hook) es i e in first_from hook es i f.or_len f.within

  -- a list written at the hook's place
  set_value-at : (hook : List ℕ) (es : List (String Y × List Registration)) (i : ℕ) (w : List Registration) → IsFirstAt hook es i
      → pairs (set_value_at es i w) ≡ set_value (pairs es) hook w
  set_value-at hook [] i w h = absurd h
  set_value-at hook (e ∷ es) zero w h = rw h refl
  set_value-at hook (e ∷ es) (suc i) w h = rw h.0 (ap (λ ps. (string_bytes e.0, e.1) ∷ ps) (set_value-at hook es i w h.1))

  pub keeping-at : (passes : Registration → Bool) (hook : List ℕ) (es : List (String Y × List Registration)) (i : ℕ) (w v : List Registration)
      → IsFirstAt hook es i
      → slice_get (values_of es) i ≡ Some v → w ≡ filter passes v → pairs (set_value_at es i w) ≡ keeping passes (pairs es) hook
  keeping-at passes hook [] i w v h g f = absurd h
  keeping-at passes hook (e ∷ es) zero w v h g f =
      let same : e.1 ≡ v = cc in
      rw h (ap (λ rs. (string_bytes e.0, rs) ∷ pairs es) (f ∙ ap (filter passes) (sym same)))
  keeping-at passes hook (e ∷ es) (suc i) w v h g f = rw h.0 (ap (λ ps. (string_bytes e.0, e.1) ∷ ps) (keeping-at passes hook es i w v h.1 g f))

  pub keeping-missing : (passes : Registration → Bool) (hook : List ℕ) (es : List (String Y × List Registration)) → None ≡ lookup (named hook) es
      → pairs es ≡ keeping passes (pairs es) hook
  keeping-missing passes hook [] n = refl
  keeping-missing passes hook (e ∷ es) n =
      elim (bytes_eq hook (string_bytes e.0)) as (λ b. None ≡ cond b (Some e.1) (lookup (named hook) es)
      → pairs (e ∷ es) ≡ cond b ((string_bytes e.0, filter passes e.1) ∷ pairs es) ((string_bytes e.0, e.1) ∷ keeping passes (pairs es) hook))
      [ true ↦ λ q. cc | false ↦ λ q. ap (λ ps. (string_bytes e.0, e.1) ∷ ps) (keeping-missing passes hook es q) ] n

  pub found_at : (hook : List ℕ) (es : List (String Y × List Registration)) (i : ℕ) (v : List Registration) → Some i ≡ position (named hook) (keys_of es)
      → Some v ≡ slice_get (values_of es) i → Some v ≡ lookup (named hook) es
  found_at hook es i v p g = g ∙ sym (Found-position (named hook) es i (sym p)).value

  pub not_found : (hook : List ℕ) (es : List (String Y × List Registration)) → None ≡ position (named hook) (keys_of es) → None ≡ lookup (named hook) es
  not_found hook es p = sym (Missing-position (named hook) es (sym p)).value

  -- a registration added to the list at the hook's place
  pub add-at : (hook : List ℕ) (es : List (String Y × List Registration)) (i : ℕ) (new : Registration) (w v : List Registration)
      → Some i ≡ position (named hook) (keys_of es) → Some v ≡ slice_get (values_of es) i → w ≡ with_added v new
      → pairs (set_value_at es i w) ≡ add (pairs es) hook new
  add-at hook es i new w v p g e =
      set_value-at hook es i w (is_first_at hook es i (sym p))
      ∙ ap (set_value (pairs es) hook) (e ∙ ap (λ rs. with_added rs new) (registrations-found hook es v (found_at hook es i v p g)))

  -- a list written back as it was
  pub unwritten : (es : List (String Y × List Registration)) (i : ℕ) (w v : List Registration) → Some v ≡ slice_get (values_of es) i → w ≡ v
      → pairs (set_value_at es i w) ≡ pairs es
  unwritten [] i w v g e = refl
  unwritten (x ∷ es) zero w v g e = let same : v ≡ x.1 = cc in ap (λ rs. (string_bytes x.0, rs) ∷ pairs es) (e ∙ same)
  unwritten (x ∷ es) (suc i) w v g e = ap (λ ps. (string_bytes x.0, x.1) ∷ ps) (unwritten es i w v g e)

  -- a hook that has no list yet
  pub missing : (hook : List ℕ) (es : List (String Y × List Registration)) → None ≡ position (named hook) (keys_of es) → value_of (pairs es) hook ≡ None
  missing hook es n = sym (not_found hook es n ∙ lookup-pairs hook es)

  pub add-first : (hook : List ℕ) (es : List (String Y × List Registration)) (k : String Y) (w : List Registration) (new : Registration)
      → value_of (pairs es) hook ≡ None → string_bytes k ≡ hook → w ≡ with_added [] new → pairs (insert_entry string_eq es k w) ≡ add (pairs es) hook new
  add-first hook es k w new n e f =
      insert_entry-pairs es k w
      ∙ λ i. set_value (pairs es) (e i) ((f ∙ ap (λ rs. with_added rs new) (sym (ap (λ o. unwrap_or o []) n))) i)

-- what follows from what holds at `Ok` holds there too
pub on_ok : {X E A B : Type 0} (r : Result X E) → (A → B) → OnOk r A → OnOk r B
on_ok (Ok x) f a = f a
on_ok (Err e) f a = tt

pub on_err : {X E A B : Type 0} (r : Result X E) → (A → B) → OnErr r A → OnErr r B
on_err (Ok x) f a = tt
on_err (Err e) f a = f a

-- what follows from both outcomes
pub either : {X E A B C : Type 0} (r : Result X E) → (A → C) → (B → C) → OnOk r A → OnErr r B → C
either (Ok x) f g a b = f a
either (Err e) f g a b = g b
