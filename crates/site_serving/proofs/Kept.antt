-- What is kept after a look-up, a put and a drop.
use Rattle.std.proofs.Common.{◌≡◌, ℕ, Bool, inl, inr, List, Vec, Option, Some, None, take, ap, sym, subst}
use Rattle.std.specs.Prelude.{bytes_eq, nat_eq, IfSome, Result, Ok, Err, OnOk, OnErr}
use Rattle.std.specs.Cmp.Lexicographic.{pointwise}
use Rattle.std.specs.Map.{lookup}
use Rattle.std.proofs.lemmas.Slice.Eq.{bytes_eq-Decides}
use Rattle.lru.specs.LruCache.{LruCache, lru_cache, promoted, put_entries}
use Rattle.lru.proofs.CallerLemmas.{Contains-promoted, Contains-lookup, Contains-put_entries, Contains-take}
use Rattle.site_replies.specs.Reply.{ReplyData, page, reply_data}
use Rattle.site_replies.specs.declared.reply.SiteReply.{SiteReply}
use Rattle.site_serving.specs.declared.commands.Commands as commands
use Rattle.site_serving.specs.declared.pages.Page.{Page}
use Rattle.site_serving.specs.Kept.{AllRepeat, Repeats}

module _ {C : Type 0} (c : commands.Ghosts C) where
  pub repeats-as : (at also : C) (line same : List ℕ) (reply copy : ReplyData) → also ≡ at → same ≡ line → copy ≡ reply → Repeats c at line reply
      → Repeats c also same copy
  repeats-as at also line same reply copy it lines replies is = rw (it, lines, replies) is

module _ {C : Type 0} (c : commands.Ghosts C) {A : Type 0} (at : C) where
  pub kept-promoted : (test : Vec ℕ A → Bool) (es : List (Vec ℕ A × Page)) → AllRepeat c at es → AllRepeat c at (promoted test es)
  kept-promoted test es all e is_in = all e (Contains-promoted test es e is_in)

  pub kept-take : (n : ℕ) (es : List (Vec ℕ A × Page)) → AllRepeat c at es → AllRepeat c at (take n es)
  kept-take n es all e is_in = all e (Contains-take n es e is_in)

  -- what a look-up of a line finds was kept of it
  pub kept-lookup : (line : List ℕ) (es : List (Vec ℕ A × Page)) (v : Page) → AllRepeat c at es
      → lookup (λ k. bytes_eq line k.items) es ≡ Some v → Repeats c at line (page v.status v.body)
  kept-lookup line es v all is =
      let found = Contains-lookup (λ k. bytes_eq line k.items) es v is in
      subst (λ (l : List ℕ). Repeats c at l (page v.status v.body)) (sym ((bytes_eq-Decides line found.0.items).0 found.2)) (all (found.0, v) found.1)

  -- so does the reply that shares it
  pub kept-shared : (line : List ℕ) (es : List (Vec ℕ A × Page)) (v : Page) (shared : Option SiteReply) → AllRepeat c at es
      → lookup (λ k. bytes_eq line k.items) es ≡ Some v → IfSome shared (λ reply. reply_data reply ≡ page v.status v.body)
      → IfSome shared (λ reply. Repeats c at line (reply_data reply))
  kept-shared line es v None all is same = tt
  kept-shared line es v (Some reply) all is same = subst (Repeats c at line) (sym same) (kept-lookup line es v all is)

  -- what is kept of a line beside the others
  pub kept-put : (cache : LruCache (Vec ℕ A) Page) (key : Vec ℕ A) (v : Page) → AllRepeat c at cache.entries
      → Repeats c at key.items (page v.status v.body)
      → AllRepeat c at (put_entries (λ x y. pointwise nat_eq x.items y.items) cache key v)
  kept-put cache key v all is entry is_in = elim (Contains-put_entries (λ x y. pointwise nat_eq x.items y.items) cache key v entry is_in) [
    | inl was ↦ all entry was
    | inr put ↦ elim (put.1) [
      | inl same ↦ kept_under (sym put.0) (sym (ap (λ (k : Vec ℕ A). k.items) same))
      | inr there ↦ kept_under (sym put.0) ((bytes_eq-Decides key.items entry.0.items).0 there.2)
    ]
  ]
    where
      kept_under : v ≡ entry.1 → key.items ≡ entry.0.items → Repeats c at entry.0.items (page entry.1.status entry.1.body)
      kept_under same bytes = subst (λ (z : Page). Repeats c at entry.0.items (page z.status z.body)) same
          (subst (λ (l : List ℕ). Repeats c at l (page v.status v.body)) bytes is)

  -- after a put, also if it is refused
  pub kept-after_put : {R E : Type 0} (r : Result R E) (after was : LruCache (Vec ℕ A) Page) (k : Vec ℕ A) (v : Page) → AllRepeat c at was.entries
      → Repeats c at k.items (page v.status v.body)
      → OnOk r (after ≡ lru_cache (put_entries (λ x y. pointwise nat_eq x.items y.items) was k v) was.cap) → OnErr r (after ≡ was)
      → AllRepeat c at after.entries
  kept-after_put (Ok x) after was k v all is ok err = rw ok (kept-put was k v all is)
  kept-after_put (Err x) after was k v all is ok err = rw err all
