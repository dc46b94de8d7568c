-- What is kept after a look-up, a drop and a put, under the bytes of the paths.
use Rattle.std.proofs.Common.{◌≡◌, ◌∙◌, ℕ, zero, suc, ◌-◌, Bool, true, false, cond, List, [], ◌∷◌, length, take, String, string_bytes, Option, None, Some, inl, refl, sym, ap}
use Rattle.std.specs.Prelude.{bytes_eq, string_eq, option_map}
use Rattle.std.proofs.lemmas.Slice.Eq.{bytes_eq-Decides}
use Rattle.lru.proofs.CallerLemmas.{Contains-lookup_entry}
use Rattle.std.specs.Option.{option_map_or}
use Rattle.std.specs.Map.{lookup, lookup_entry, remove_entry}
use Rattle.std.proofs.lemmas.List.{take-map}
use Rattle.lru.specs.LruCache.{LruCache, promoted, put_entries}
use Rattle.plain_data.specs.Texts.{Text}
use Rattle.site_records.specs.declared.found.Found.{Found}
use Rattle.site_store.specs.Kept.{IsKeptFrom, finds_of}

module _ {K V : Type 0} (test : K → Bool) where
  remove-none : (es : List (K × V)) (n : ℕ) → lookup_entry test es ≡ None → remove_entry test (take n es) ≡ take n es
  remove-none es zero none = refl
  remove-none [] (suc n) none = refl
  remove-none (e ∷ es) (suc n) none = by (test e.0) none (remove-none es n)
    where
      by : (b : Bool) → cond b (Some e) (lookup_entry test es) ≡ None → (lookup_entry test es ≡ None → remove_entry test (take n es) ≡ take n es)
          → cond b (take n es) (e ∷ remove_entry test (take n es)) ≡ e ∷ take n es
      by true is rest = absurd (let some = is in cc)
      by false is rest = ap (λ l. e ∷ l) (rest is)

pub take-every : {X : Type 0} (xs : List X) → take (length xs) xs ≡ xs
take-every [] = refl
take-every (x ∷ xs) = ap (λ l. x ∷ l) (take-every xs)

-- a front of a front is a front
pub shorter : {X : Type 0} (m n : ℕ) (xs : List X) → (i : ℕ) × (take m (take n xs) ≡ take i xs)
shorter zero n xs = (0, refl)
shorter (suc m) zero xs = (0, refl)
shorter (suc m) (suc n) [] = (0, refl)
shorter (suc m) (suc n) (x ∷ xs) = let rest = shorter m n xs in (suc rest.0, ap (λ l. x ∷ l) rest.1)

module _ {A : Type 0} (path : Text) where
  pub finds-lookup : (es : List (String A × Found)) → lookup (λ k. bytes_eq path (string_bytes k)) es ≡ lookup (bytes_eq path) (finds_of es)
  finds-lookup [] = refl
  finds-lookup (e ∷ es) = ap (cond (bytes_eq path (string_bytes e.0)) (Some e.1)) (finds-lookup es)

  finds-remove : (es : List (String A × Found)) → finds_of (remove_entry (λ k. bytes_eq path (string_bytes k)) es) ≡ remove_entry (bytes_eq path) (finds_of es)
  finds-remove [] = refl
  finds-remove (e ∷ es) = by (bytes_eq path (string_bytes e.0)) (finds-remove es)
    where
      by : (b : Bool) → finds_of (remove_entry (λ k. bytes_eq path (string_bytes k)) es) ≡ remove_entry (bytes_eq path) (finds_of es)
          → finds_of (cond b es (e ∷ remove_entry (λ k. bytes_eq path (string_bytes k)) es))
          ≡ cond b (finds_of es) ((string_bytes e.0, e.1) ∷ remove_entry (bytes_eq path) (finds_of es))
      by true rest = refl
      by false rest = ap (λ l. (string_bytes e.0, e.1) ∷ l) rest

  -- an entry under the bytes of its key
  abbrev under : Option (String A × Found) → Option (Text × Found)
  under o = option_map (λ e. (string_bytes e.0, e.1)) o

  finds-entry : (es : List (String A × Found)) → lookup_entry (bytes_eq path) (finds_of es) ≡ under (lookup_entry (λ k. bytes_eq path (string_bytes k)) es)
  finds-entry [] = refl
  finds-entry (e ∷ es) = by (bytes_eq path (string_bytes e.0)) (finds-entry es)
    where
      by : (b : Bool) → lookup_entry (bytes_eq path) (finds_of es) ≡ under (lookup_entry (λ k. bytes_eq path (string_bytes k)) es)
          → cond b (Some (string_bytes e.0, e.1)) (lookup_entry (bytes_eq path) (finds_of es))
          ≡ under (cond b (Some e) (lookup_entry (λ k. bytes_eq path (string_bytes k)) es))
      by true rest = refl
      by false rest = rest

  pub finds-promoted : (es : List (String A × Found)) → finds_of (promoted (λ k. bytes_eq path (string_bytes k)) es) ≡ promoted (bytes_eq path) (finds_of es)
  finds-promoted es = by (lookup_entry (λ k. bytes_eq path (string_bytes k)) es) (finds-entry es)
    where
      by : (o : Option (String A × Found)) → lookup_entry (bytes_eq path) (finds_of es) ≡ under o
          → finds_of (option_map_or (λ e. e ∷ remove_entry (λ k. bytes_eq path (string_bytes k)) es) o es) ≡ promoted (bytes_eq path) (finds_of es)
      by None is = rw is refl
      by (Some e) is = rw is (ap (λ l. (string_bytes e.0, e.1) ∷ l) (finds-remove es))

-- what is put comes first, and then the most recently used of the others
abbrev IsFirst : Text → Found → List (Text × Found) → List (Text × Found) → Type 0
IsFirst path v old new = (n : ℕ) × (new ≡ (path, v) ∷ remove_entry (bytes_eq path) (take n old))

module _ {A : Type 0} where
  pub finds-take : (n : ℕ) (es : List (String A × Found)) → finds_of (take n es) ≡ take n (finds_of es)
  finds-take n es = sym (take-map (λ (e : String A × Found). (string_bytes e.0, e.1)) n es)

  -- without the last, what was the front of all finds still is
  pub finds-popped : (m : ℕ) (es : List (String A × Found)) (all : List (Text × Found)) → (n : ℕ) × (finds_of es ≡ take n all)
      → (n : ℕ) × (finds_of (take m es) ≡ take n all)
  finds-popped m es all front =
      let short = shorter m front.0 all in
      (short.0, finds-take m es ∙ ap (take m) front.1 ∙ short.1)

  finds-put_own : (c : LruCache (String A) Found) (k : String A) (v : Found) → IsFirst (string_bytes k) v (finds_of c.entries) (finds_of (put_entries string_eq c k v))
  finds-put_own c k v = by (lookup_entry (string_eq k) c.entries) refl
    where
      by : (o : Option (String A × Found)) → lookup_entry (string_eq k) c.entries ≡ o
          → IsFirst (string_bytes k) v (finds_of c.entries) (finds_of (option_map_or (λ e. (e.0, v) ∷ remove_entry (string_eq k) c.entries) o ((k, v) ∷ take (c.cap - 1) c.entries)))
      by None none =
          let none_under = finds-entry (string_bytes k) c.entries ∙ ap (λ o. option_map (λ e. (string_bytes e.0, e.1)) o) none in (
            c.cap - 1,
            ap (λ l. (string_bytes k, v) ∷ l) (finds-take (c.cap - 1) c.entries
                ∙ sym (remove-none (bytes_eq (string_bytes k)) (finds_of c.entries) (c.cap - 1) none_under)),
          )
      by (Some e) is =
          let same : string_bytes k ≡ string_bytes e.0 = (bytes_eq-Decides (string_bytes k) (string_bytes e.0)).0 (Contains-lookup_entry (string_eq k) c.entries e is).1 in
          (length (finds_of c.entries), rw (take-every (finds_of c.entries)) ((λ i. (sym same i, v) ∷ finds-remove (string_bytes k) c.entries i)))

  -- also if the least recently used were dropped before
  pub finds-put : (c : LruCache (String A) Found) (k : String A) (v : Found) (path : Text) → string_bytes k ≡ path → (all : List (Text × Found))
      → (n : ℕ) × (finds_of c.entries ≡ take n all) → IsFirst path v all (finds_of (put_entries string_eq c k v))
  finds-put c k v path named all front =
      let put = finds-put_own c k v in
      let short = shorter put.0 front.0 all in
      (short.0, put.1 ∙ (λ i. (named i, v) ∷ remove_entry (bytes_eq (named i)) ((ap (take put.0) front.1 ∙ short.1) i)))

-- what is kept after a find that isn't
pub kept-none : (old : List (Text × Found)) (find : Text × Found) → IsKeptFrom old find old
kept-none old find = (length old, inl (sym (take-every old)))
