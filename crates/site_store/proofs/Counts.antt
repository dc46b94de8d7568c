-- The bytes that count for what is kept, after a look-up, a drop and a put.
use Rattle.std.proofs.Common.{◌≡◌, ◌∙◌, ℕ, ◌+◌, ◌-◌, ◌<◌, ◌≤◌, List, [], ◌∷◌, length, take, slice_get, get_or, String, string_bytes, Option, None, Some, refl, sym, ap, arith}
use Rattle.std.specs.Prelude.{bytes_eq, string_eq}
use Rattle.std.specs.List.{sum_by}
use Rattle.std.proofs.lemmas.Slice.Eq.{bytes_eq-Decides}
use Rattle.std.proofs.lemmas.Option.{slice_get-get_or}
use Rattle.std.proofs.lemmas.List.{length-map, length-take}
use Rattle.std.proofs.lemmas.List.Sums.{sum_by-cons}
use Rattle.lru.specs.LruCache.{LruCache, lru_cache, promoted, put_entries, displaced, last_entry}
use Rattle.plain_data.specs.Texts.{Text}
use Rattle.site_records.specs.declared.found.Found.{Found}
use Rattle.site_store.specs.Kept.{IsCounted, finds_of, bytes_of, size_of}
use Rattle.site_store.proofs.Weights.{weight, sum-promoted, sum-cut, sum-put, length-promoted, length-put}
use Rattle.site_store.proofs.Recency.{finds-promoted}

module _ {A : Type 0} where
  -- how many bytes count for an entry
  abbrev pub counts : String A × Found → ℕ
  counts e = bytes_of (string_bytes e.0, e.1)

  sum-finds : (es : List (String A × Found)) → sum_by bytes_of (finds_of es) ≡ sum_by counts es
  sum-finds [] = refl
  sum-finds (e ∷ es) = omega (arith, sum_by-cons bytes_of (string_bytes e.0, e.1) (finds_of es), sum_by-cons counts e es, sum-finds es)

  length-finds : (es : List (String A × Found)) → length (finds_of es) ≡ length es
  length-finds es = length-map es (λ (e : String A × Found). (string_bytes e.0, e.1))

  module _ (c : LruCache (String A) Found) (bytes : ℕ) (is : IsCounted c bytes) where
    pub counted-promoted : (path : Text) → IsCounted (lru_cache (promoted (λ k. bytes_eq path (string_bytes k)) c.entries) c.cap) bytes
    counted-promoted path =
        let same = finds-promoted path c.entries in
        let sum = ap (sum_by bytes_of) same ∙ sum-promoted bytes_of (bytes_eq path) (finds_of c.entries) in
        let long = ap length same ∙ length-promoted (bytes_eq path) (finds_of c.entries) in
        (is.0, is.1 ∙ sym sum, record { few = omega (arith, long, is.2.few); small = omega (arith, sum, is.2.small) })

    -- the last entry goes
    pub counted-popped : (e : String A × Found) → Some e ≡ last_entry c.entries
        → (counts e ≤ bytes) × IsCounted (lru_cache (take (length c.entries - 1) c.entries) c.cap) (bytes - counts e)
    counted-popped e last =
        let n = length c.entries - 1 in
        let left = sum-cut counts n c.entries (omega arith) in
        let weighs : counts e ≡ weight counts (slice_get c.entries n) = ap (weight counts) last in
        let all = sum-finds c.entries in
        let fewer = sum-finds (take n c.entries) in
        let short = length-take n c.entries in
        let before = is.1 in
        let few = is.2.few in
        let small = is.2.small in
        let long = length-finds c.entries in
        let longer = length-finds (take n c.entries) in
        (omega arith, (is.0, omega arith, record { few = omega arith; small = omega arith }))

    -- there is a last entry, if any byte counts
    pub some-popped : 0 < bytes → None ≡ last_entry c.entries → ⊥
    some-popped some none = cases c.entries is.1 none
      where
        cases : (es : List (String A × Found)) → bytes ≡ sum_by bytes_of (finds_of es) → None ≡ last_entry es → ⊥
        cases [] all last = omega arith
        cases (e ∷ es) all last =
            let place = slice_get-get_or (e ∷ es) (length es) e (omega arith) in
            let many : length (e ∷ es) - 1 ≡ length es = omega arith in
            let found : None ≡ Some (get_or (e ∷ es) (length es) e) = last ∙ ap (slice_get (e ∷ es)) many ∙ place in
            cc

    -- an entry is put in, after room was made for it, and another may go for it
    module _ (k : String A) (v : Found) (path : Text) (n : ℕ) (named : string_bytes k ≡ path) (n_is : n ≡ bytes_of (path, v)) (finds : List (Text × Found))
        (are : finds_of c.entries ≡ finds) (room : sum_by bytes_of finds ≤ 4194304 - n) (fits : n ≤ 4194304)
        (o : Option (String A × Found)) (goes : o ≡ displaced string_eq c k v) where
      pub counted-put : (weight counts o ≤ bytes + n) × IsCounted (lru_cache (put_entries string_eq c k v) c.cap) (bytes + n - weight counts o)
      counted-put =
          let cap = is.0 in
          let before = is.1 in
          let few = is.2.few in
          let long = length-finds c.entries in
          let n_counts : n ≡ counts (k, v) = n_is ∙ ap (λ p. bytes_of (p, v)) (sym named) in
          let whole = ap (sum_by bytes_of) are in
          let put = sum-put counts string_eq c k v
          (λ e w passes. ap (λ p. length p + sum_by size_of w.posts) ((bytes_eq-Decides (string_bytes k) (string_bytes e.0)).0 passes)) (omega arith) (omega arith) in
          let gone = ap (weight counts) goes in
          let all = sum-finds c.entries in
          let more = sum-finds (put_entries string_eq c k v) in
          let longer = length-finds (put_entries string_eq c k v) in
          let most = length-put string_eq c k v (omega arith) (omega arith) in
          (omega arith, (cap, omega arith, record { few = omega arith; small = omega arith }))
