-- How much a cache's entries weigh after a look-up, a drop and a put, where f weighs an entry.
use Rattle.std.proofs.Common.{◌≡◌, ◌∙◌, ℕ, zero, suc, ◌+◌, ◌-◌, ◌<◌, ◌≤◌, Bool, true, false, cond, List, [], ◌∷◌, length, take, slice_get, Option, None, Some, refl, sym, arith}
use Rattle.std.specs.Prelude.{option_map}
use Rattle.std.specs.Option.{option_map_or}
use Rattle.std.specs.List.{sum_by}
use Rattle.std.specs.Map.{lookup, lookup_entry, remove_entry}
use Rattle.std.proofs.lemmas.List.Sums.{sum_by-cons}
use Rattle.std.proofs.lemmas.List.{length-take}
use Rattle.lru.specs.LruCache.{LruCache, promoted, put_entries, displaced}
use Rattle.lru.proofs.CallerLemmas.{Contains-lookup_entry}

module _ {K V : Type 0} (f : K × V → ℕ) where
  abbrev pub weight : Option (K × V) → ℕ
  weight o = option_map_or f o 0

  pub sum-remove : (test : K → Bool) (es : List (K × V)) → sum_by f (remove_entry test es) + weight (lookup_entry test es) ≡ sum_by f es
  sum-remove test [] = refl
  sum-remove test (e ∷ es) = by (test e.0) (sum-remove test es)
    where
      by : (b : Bool) → sum_by f (remove_entry test es) + weight (lookup_entry test es) ≡ sum_by f es
          → sum_by f (cond b es (e ∷ remove_entry test es)) + weight (cond b (Some e) (lookup_entry test es)) ≡ sum_by f (e ∷ es)
      by true rest = omega (arith, sum_by-cons f e es)
      by false rest = omega (arith, sum_by-cons f e es, sum_by-cons f e (remove_entry test es))

  pub sum-promoted : (test : K → Bool) (es : List (K × V)) → sum_by f (promoted test es) ≡ sum_by f es
  sum-promoted test es = by (lookup_entry test es) (sum-remove test es)
    where
      by : (o : Option (K × V)) → sum_by f (remove_entry test es) + weight o ≡ sum_by f es
          → sum_by f (option_map_or (λ e. e ∷ remove_entry test es) o es) ≡ sum_by f es
      by None rest = refl
      by (Some e) rest = omega (arith, sum_by-cons f e (remove_entry test es))

  -- all but the last, and the last
  pub sum-cut : (n : ℕ) (es : List (K × V)) → length es ≤ n + 1 → sum_by f (take n es) + weight (slice_get es n) ≡ sum_by f es
  sum-cut zero [] few = refl
  sum-cut (suc n) [] few = refl
  sum-cut zero (e ∷ []) few = omega (arith, sum_by-cons f e [])
  sum-cut zero (e ∷ d ∷ es) few = absurd (omega arith)
  sum-cut (suc n) (e ∷ es) few = omega (arith, sum_by-cons f e es, sum_by-cons f e (take n es), sum-cut n es (omega arith))

  lookup-entry : (test : K → Bool) (es : List (K × V)) → lookup test es ≡ option_map (λ e. e.1) (lookup_entry test es)
  lookup-entry test [] = refl
  lookup-entry test (e ∷ es) = by (test e.0) (lookup-entry test es)
    where
      by : (b : Bool) → lookup test es ≡ option_map (λ e. e.1) (lookup_entry test es)
          → cond b (Some e.1) (lookup test es) ≡ option_map (λ e. e.1) (cond b (Some e) (lookup_entry test es))
      by true rest = refl
      by false rest = rest

  module _ (eq : K → K → Bool) (c : LruCache K V) (k : K) (v : V) (same : (e : K × V) (w : V) → eq k e.0 ≡ true → f (k, w) ≡ f (e.0, w))
      (few : length c.entries ≤ c.cap) (some : 0 < c.cap) where
    put : (o : Option (K × V)) → lookup_entry (eq k) c.entries ≡ o → sum_by f (remove_entry (eq k) c.entries) + weight o ≡ sum_by f c.entries
        → sum_by f (option_map_or (λ e. (e.0, v) ∷ remove_entry (eq k) c.entries) o ((k, v) ∷ take (c.cap - 1) c.entries))
        + weight (option_map_or (λ old. Some (k, old)) (option_map (λ e. e.1) o) (slice_get c.entries (c.cap - 1))) ≡ sum_by f c.entries + f (k, v)
    put None is rest = omega (arith, sum_by-cons f (k, v) (take (c.cap - 1) c.entries), sum-cut (c.cap - 1) c.entries (omega arith))
    put (Some e) is rest =
        let found = (Contains-lookup_entry (eq k) c.entries e is).1 in
        omega (arith, sum_by-cons f (e.0, v) (remove_entry (eq k) c.entries), same e v found, same e e.1 found)

    -- what a put adds, and what it displaces
    pub sum-put : sum_by f (put_entries eq c k v) + weight (displaced eq c k v) ≡ sum_by f c.entries + f (k, v)
    sum-put = rw (lookup-entry (eq k) c.entries) (put (lookup_entry (eq k) c.entries) refl (sum-remove (eq k) c.entries))

-- how many entries there are, by the weight 1
module _ {K V : Type 0} where
  one : (es : List (K × V)) → sum_by (λ (e : K × V). 1) es ≡ length es
  one [] = refl
  one (e ∷ es) = omega (arith, sum_by-cons (λ (e : K × V). 1) e es, one es)

  pub length-promoted : (test : K → Bool) (es : List (K × V)) → length (promoted test es) ≡ length es
  length-promoted test es = sym (one (promoted test es)) ∙ sum-promoted (λ (e : K × V). 1) test es ∙ one es

  pub length-put : (eq : K → K → Bool) (c : LruCache K V) (k : K) (v : V) → length c.entries ≤ c.cap → 0 < c.cap → length (put_entries eq c k v) ≤ c.cap
  length-put eq c k v few some = by (lookup_entry (eq k) c.entries) (sum-remove (λ (e : K × V). 1) (eq k) c.entries)
    where
      by : (o : Option (K × V)) → sum_by (λ (e : K × V). 1) (remove_entry (eq k) c.entries) + weight (λ (e : K × V). 1) o ≡ sum_by (λ (e : K × V). 1) c.entries
          → length (option_map_or (λ e. (e.0, v) ∷ remove_entry (eq k) c.entries) o ((k, v) ∷ take (c.cap - 1) c.entries)) ≤ c.cap
      by None rest = omega (arith, length-take (c.cap - 1) c.entries)
      by (Some e) rest = omega (arith, one c.entries, one (remove_entry (eq k) c.entries))
