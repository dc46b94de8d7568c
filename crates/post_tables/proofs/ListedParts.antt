-- An edit that gives neither a status nor a date leaves the IDs of each part as they were.
use Rattle.std.proofs.Common.{◌≡◌, inl, inr, ℕ, List, [], ◌∷◌, get_or, map, filter, take, drop, Bool, None, Ok, Err, Result, refl, sym, ap, subst, ◌∙◌, ◌==◌}
use Rattle.std.specs.Prelude.{if◌then◌else◌}
use Rattle.std.proofs.lemmas.Bool.{cases_Bool}
use Rattle.std.proofs.lemmas.List.{take-map, drop-map}
use Rattle.sqlite_trees.proofs.ListLemmas.{filter-map}
use Rattle.sqlite.specs.Held.{Held}
use Rattle.sqlite_trees.specs.declared.memory.MemStore.{MemStore}
use Rattle.site_records.specs.declared.post.Post.{Post}
use Rattle.site_records.specs.declared.post.PostKind.{PostKind}
use Rattle.table_rows.specs.Sorting.{in_order}
use Rattle.table_rows.proofs.SortLemmas.{sorted_mapped}
use Rattle.post_tables.specs.Kept.{AreListed}
use Rattle.post_tables.specs.Page.{newest, is_listed, page_of}
use Rattle.post_tables.specs.Stored.{Makes, rows_of}
use Rattle.post_tables.specs.Rows.{PostEdit, Rows, edited_post, edited_posts}
use Rattle.post_tables.specs.declared.kept_parts.KeptPart.{KeptPart}
use Rattle.post_tables.specs.declared.kept_parts.KeptParts.{KeptParts}

-- all of a post that decides what is listed, and where
record IsAlike (q p : Post) : Type 0 where
  id : q.id ≡ p.id
  kind : q.kind ≡ p.kind
  status : q.status ≡ p.status
  date : q.date ≡ p.date

filter_same : {X : Type 0} (p q : X → Bool) → ((x : X) → p x ≡ q x) → (xs : List X) → filter p xs ≡ filter q xs
filter_same p q same [] = refl
filter_same p q same (x ∷ xs) = rw (same x, filter_same p q same xs) refl

map_same : (g : Post → Post) → ((p : Post) → IsAlike (g p) p) → (ps : List Post) → map (λ p. p.id) (map g ps) ≡ map (λ p. p.id) ps
map_same g alike [] = refl
map_same g alike (p ∷ ps) = rw (alike p).id (ap (λ l. p.id ∷ l) (map_same g alike ps))

module _ (g : Post → Post) (alike : (p : Post) → IsAlike (g p) p) (kind : PostKind) (from to : List ℕ) where
  listed_alike : (p : Post) → is_listed kind from to (g p) ≡ is_listed kind from to p
  listed_alike p = let a = alike p in rw (a.kind, a.status, a.date) refl

  order_alike : (p q : Post) → newest (g p) (g q) ≡ newest p q
  order_alike p q = let a = alike p in let b = alike q in rw (a.date, a.id, b.date, b.id) refl

  all_mapped : (ps : List Post) → in_order newest (filter (is_listed kind from to) (map g ps)) ≡ map g (in_order newest (filter (is_listed kind from to) ps))
  all_mapped ps =
      ap (in_order newest) (filter-map (is_listed kind from to) g ps
      ∙ ap (map g) (filter_same (λ p. is_listed kind from to (g p)) (is_listed kind from to) listed_alike ps))
      ∙ sym (sorted_mapped newest newest g order_alike (filter (is_listed kind from to) ps))

  part_mapped : (limit offset : ℕ) (ps : List Post) → page_of kind from to limit offset (map g ps) ≡ map g (page_of kind from to limit offset ps)
  part_mapped limit offset ps =
      let sorted : List Post = in_order newest (filter (is_listed kind from to) ps) in
      ap (λ l. take limit (drop offset l)) (all_mapped ps) ∙ ap (take limit) (drop-map g offset sorted) ∙ take-map g limit (drop offset sorted)

  -- so the IDs are the same
  ids_mapped : (limit offset : ℕ) (ps : List Post)
      → map (λ p. p.id) (page_of kind from to limit offset (map g ps)) ≡ map (λ p. p.id) (page_of kind from to limit offset ps)
  ids_mapped limit offset ps = ap (map (λ p. p.id)) (part_mapped limit offset ps) ∙ map_same g alike (page_of kind from to limit offset ps)

pub ids_stay : (id : ℕ) (e : PostEdit) → e.status ≡ None → e.date ≡ None → (kind : PostKind) (from to : List ℕ) (limit offset : ℕ) (ps : List Post)
    → map (λ p. p.id) (page_of kind from to limit offset (edited_posts id e ps)) ≡ map (λ p. p.id) (page_of kind from to limit offset ps)
ids_stay id e no_status no_date kind from to limit offset ps = ids_mapped _ alike kind from to limit offset ps
  where
    alike : (p : Post) → IsAlike (if p.id == id then edited_post e p else p) p
    alike p = elim (cases_Bool (p.id == id)) [
      | inl here ↦ rw here (rw (no_status, no_date) (record { id = refl; kind = refl; status = refl; date = refl }))
      | inr other ↦ rw other (record { id = refl; kind = refl; status = refl; date = refl })
    ]

-- and so what is kept of each part still holds
pub parts_stay : (kept : KeptParts) (posts : List Post) (id : ℕ) (e : PostEdit) → e.status ≡ None → e.date ≡ None → AreListed kept posts
    → AreListed kept (edited_posts id e posts)
parts_stay kept posts id e no_status no_date listed = λ k d below.
    let part : KeptPart = get_or kept.parts.items k d in
    listed k d below ∙ sym (ids_stay id e no_status no_date part.kind part.from part.to part.limit part.offset posts)

-- the same, of a connection before and after the statement
pub edit_listed : {A E : Type 0} (kept : KeptParts) (old new : Held MemStore) (id : ℕ) (e : PostEdit) (r : Result A E)
    → Makes (λ s. record s { posts = edited_posts id e s.posts }) old new r → AreListed kept (rows_of old).posts
    → AreListed kept (edited_posts id e (rows_of old).posts) → AreListed kept (rows_of new).posts
edit_listed kept old new id e (Ok a) makes same edited = subst (AreListed kept) (ap (λ (s : Rows). s.posts) (sym makes.ok)) edited
edit_listed kept old new id e (Err f) makes same edited = subst (AreListed kept) (ap (λ (s : Rows). s.posts) (sym makes.err)) same
