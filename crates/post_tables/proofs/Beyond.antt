-- No page begins after as many posts as there are IDs.
use Rattle.std.proofs.Common.{◌≡◌, ◌≤◌, ◌<◌, ◌^◌, ℕ, zero, suc, List, [], ◌∷◌, length, filter, take, drop, Bool, true, false, cond, Ordering, Less, Equal}
use Rattle.std.proofs.Common.{Greater, refl, sym, ap, subst, ◌∙◌, arith}
use Rattle.std.proofs.Math.ListN.{drop_of_length-le}
use Rattle.std.specs.Ordering.{match_ordering}
use Rattle.sqlite_trees.specs.declared.memory.MemStore.{MemStore}
use Rattle.sqlite.specs.Held.{Held}
use Rattle.sqlite.specs.Tree.{IsTable}
use Rattle.site_records.specs.declared.post.Post.{Post}
use Rattle.site_records.specs.declared.post.PostKind.{PostKind}
use Rattle.sqlite_rules.specs.Lists.{Has}
use Rattle.sqlite_rules.proofs.ListLemmas.{all_has}
use Rattle.table_rows.specs.Sorting.{put_sorted, in_order}
use Rattle.post_tables.specs.Page.{newest, is_listed, page_of}
use Rattle.post_tables.specs.Stored.{IsSite, rows_of, trees_of, post_in}
use Rattle.table_rows.proofs.Lists.{mapped_from}
use Rattle.post_tables.proofs.PageLemmas.{rising_from, rows_are}
use Rattle.post_tables.proofs.PostRows.{few_posts}

length-put : {X : Type 0} (R : X → X → Ordering) (x : X) (ys : List X) → length (put_sorted R x ys) ≡ suc (length ys)
length-put R x [] = refl
length-put R x (y ∷ ys) = go (R x y) (length-put R x ys)
  where
    go : (o : Ordering) → length (put_sorted R x ys) ≡ suc (length ys)
        → length (match_ordering o (x ∷ y ∷ ys) (x ∷ y ∷ ys) (y ∷ put_sorted R x ys)) ≡ suc (suc (length ys))
    go Less later = refl
    go Equal later = refl
    go Greater later = ap (λ n. suc n) later

length-sorted : {X : Type 0} (R : X → X → Ordering) (xs : List X) → length (in_order R xs) ≡ length xs
length-sorted R [] = refl
length-sorted R (x ∷ xs) = length-put R x (in_order R xs) ∙ ap (λ n. suc n) (length-sorted R xs)

length-some : {X : Type 0} (p : X → Bool) (xs : List X) → length (filter p xs) ≤ length xs
length-some p [] = omega arith
length-some p (x ∷ xs) = let rest = length-some p xs in elim (p x) as (λ b. length (cond b (x ∷ filter p xs) (filter p xs)) ≤ length (x ∷ xs))
    [ true ↦ omega arith | false ↦ omega arith ]

nothing_taken : (n : ℕ) (none : List Post) → none ≡ [] → take n none ≡ []
nothing_taken zero none is = refl
nothing_taken (suc n) none is = ap (take (suc n)) is

module _ (h : Held MemStore) (is : IsSite h) (kind : PostKind) (from to : List ℕ) (limit offset : ℕ) where
  past_all : ((q : Post) → Has (rows_of h).posts q → q.id < offset) → page_of kind from to limit offset (rows_of h).posts ≡ []
  past_all below =
      let ok = is.holds.sound.posts in
      let ps : List Post = (rows_of h).posts in
      let few : length ps ≤ offset = few_posts offset ps (rising_from ps (subst IsTable (rows_are (trees_of h 0) ok.each) ok.ordered)) below in
      let listed : List Post = filter (is_listed kind from to) ps in
      let some : length listed ≤ length ps = length-some (is_listed kind from to) ps in
      let all : length (in_order newest listed) ≡ length listed = length-sorted newest listed in
      let past : length (in_order newest listed) ≤ offset = omega arith in
      nothing_taken limit (drop offset (in_order newest listed)) (drop_of_length-le (in_order newest listed) past)

  pub beyond : 2 ^ 32 ≤ offset → page_of kind from to limit offset (rows_of h).posts ≡ []
  beyond far = past_all (λ q there.
      let r = mapped_from post_in (trees_of h 0) q there in
      let low : q.id < 2 ^ 32 = subst (λ (p : Post). p.id < 2 ^ 32) (sym r.2) (is.holds.sound.posts.readable r.0 r.1).id in
      omega arith)

  -- nor after the largest ID
  pub beyond_given : (rows_of h).largest < offset → page_of kind from to limit offset (rows_of h).posts ≡ []
  beyond_given far = past_all (λ q there.
      let given : q.id ≤ (rows_of h).largest = all_has _ (rows_of h).posts q is.holds.sound.given there in
      omega arith)
