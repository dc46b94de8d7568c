-- What is true of a part of the posts of any site.
use Rattle.std.proofs.Common.{◌≡◌, inl, inr, ℕ, zero, suc, List, [], ◌∷◌, map, filter, take, drop, true, false, Some, Less, refl, sym, ap, subst, ◌∙◌}
use Rattle.std.proofs.Common.{◌==◌, ◌+◌, arith}
use Rattle.std.specs.Prelude.{All, ◌≤◌}
use Rattle.std.specs.List.{AllByRecursion, IsDistinct, list_all}
use Rattle.std.specs.List.Sorted.{IsStrictlySortedBy}
use Rattle.std.specs.Ordering.{nat_cmp, eq_by_cmp, ordering_reverse}
use Rattle.std.specs.Cmp.{nat_cmp_total}
use Rattle.std.proofs.lemmas.List.Elements.{All-from_recursion}
use Rattle.std.proofs.lemmas.Bool.{false_from_ne_true}
use Rattle.std.proofs.lemmas.Bool.Decides.{nat_tests}
use Rattle.sqlite.specs.Tree.{IsTable}
use Rattle.sqlite_rules.specs.Lists.{Has}
use Rattle.sqlite_rules.proofs.ListLemmas.{has_filtered, all_has, all_from}
use Rattle.sqlite_trees.specs.declared.memory.MemStore.{MemStore}
use Rattle.sqlite_value.proofs.KeyLemmas.{then_tied}
use Rattle.sqlite.specs.Held.{Held}
use Rattle.site_records.specs.Dates.{is_post_date}
use Rattle.site_records.specs.declared.post.Post.{Post}
use Rattle.site_records.specs.declared.post.PostKind.{PostKind}
use Rattle.table_rows.specs.Sorting.{in_order}
use Rattle.post_tables.specs.Rows.{by_bytes, post_with, has_post}
use Rattle.post_tables.specs.Page.{newest, is_listed, page_of}
use Rattle.post_tables.specs.Stored.{IsSite, rows_of, trees_of}
use Rattle.post_tables.proofs.Comparing.{equal_is}
use Rattle.post_tables.proofs.GivenIds.{next_is_free}
use Rattle.post_tables.proofs.PageLemmas.{Rising, rising_from, rising_filter, rows_are, each_readable, newest_total, has_left, has_taken}
use Rattle.table_rows.proofs.SortLemmas.{sorted_rises, sorted_had}

-- ---- IDs

pub ids_rise : (ps : List Post) → Rising ps → IsStrictlySortedBy nat_cmp (map (λ p. p.id) ps)
unfolding IsStrictlySortedBy
ids_rise [] up = tt
ids_rise (p ∷ ps) up = (below ps up.0, ids_rise ps up.1)
  where
    below : (qs : List Post) → AllByRecursion (λ q. nat_cmp p.id q.id ≡ Less) qs → AllByRecursion (λ n. nat_cmp p.id n ≡ Less) (map (λ q. q.id) qs)
    below [] less = tt
    below (q ∷ qs) less = (less.0, below qs less.1)

-- the post that has an ID is the one that is found by it
pub found_by_id : (ps : List Post) (p : Post) → Rising ps → Has ps p → post_with p.id ps ≡ Some p
found_by_id [] p up h = absurd h
found_by_id (q ∷ ps) p up (inl same) = subst (λ (x : Post). post_with x.id (q ∷ ps) ≡ Some x) (sym same)
    (let itself : (q.id == q.id) ≡ true = grind (arith, nat_tests) in rw itself refl)
found_by_id (q ∷ ps) p up (inr later) =
    let less = all_has _ ps p up.0 later in
    let other : (q.id == p.id) ≡ false = grind (arith, nat_tests) in
    rw other (found_by_id ps p up.1 later)

-- ---- order

apart : (ps : List Post) → Rising ps → IsDistinct (eq_by_cmp newest) ps
unfolding IsDistinct
apart [] up = tt
apart (p ∷ ps) up = (all_from _ ps (λ q h. untied p q (all_has _ ps q up.0 h)), apart ps up.1)
  where
    untied : (a b : Post) → nat_cmp a.id b.id ≡ Less → eq_by_cmp newest a b ≡ false
    untied a b lower = false_from_ne_true _ (λ tied.
        let both = then_tied (by_bytes b.date a.date) (nat_cmp b.id a.id) (equal_is _ tied) in
        let flipped = nat_cmp_total.antisymm a.id b.id ∙ ap ordering_reverse both.1 in
        cc)

all_left : {X : Type 0} (P : X → Type 0) (n : ℕ) (xs : List X) → AllByRecursion P xs → AllByRecursion P (drop n xs)
all_left P zero xs all = all
all_left P (suc n) [] all = tt
all_left P (suc n) (x ∷ xs) all = all_left P n xs all.1

all_taken : {X : Type 0} (P : X → Type 0) (n : ℕ) (xs : List X) → AllByRecursion P xs → AllByRecursion P (take n xs)
all_taken P zero xs all = tt
all_taken P (suc n) [] all = tt
all_taken P (suc n) (x ∷ xs) all = (all.0, all_taken P n xs all.1)

left_rises : (n : ℕ) (ps : List Post) → IsStrictlySortedBy newest ps → IsStrictlySortedBy newest (drop n ps)
unfolding IsStrictlySortedBy
left_rises zero ps up = up
left_rises (suc n) [] up = tt
left_rises (suc n) (p ∷ ps) up = left_rises n ps up.1

taken_rises : (n : ℕ) (ps : List Post) → IsStrictlySortedBy newest ps → IsStrictlySortedBy newest (take n ps)
unfolding IsStrictlySortedBy
taken_rises zero ps up = tt
taken_rises (suc n) [] up = tt
taken_rises (suc n) (p ∷ ps) up = (all_taken _ n ps up.0, taken_rises n ps up.1)

pub part_rises : (kind : PostKind) (from to : List ℕ) (limit offset : ℕ) (ps : List Post) → Rising ps
    → IsStrictlySortedBy newest (page_of kind from to limit offset ps)
part_rises kind from to limit offset ps up =
    let listed : List Post = filter (is_listed kind from to) ps in
    taken_rises limit (drop offset (in_order newest listed)) (left_rises offset (in_order newest listed)
    (sorted_rises newest newest_total listed (apart listed (rising_filter (is_listed kind from to) ps up))))

-- ---- a part has posts of the list alone

abbrev pub IsOf : PostKind → (from to : List ℕ) → List Post → Post → Type 0
IsOf kind from to ps p = (is_listed kind from to p ≡ true) × (post_with p.id ps ≡ Some p)

part_has : (kind : PostKind) (from to : List ℕ) (limit offset : ℕ) (ps : List Post) → Rising ps → (p : Post) → Has (page_of kind from to limit offset ps) p
    → IsOf kind from to ps p
part_has kind from to limit offset ps up p h =
    let listed : List Post = filter (is_listed kind from to) ps in
    let whole = has_left offset (in_order newest listed) p (has_taken limit (drop offset (in_order newest listed)) p h) in
    let there = has_filtered (is_listed kind from to) ps p (sorted_had newest newest_total listed p whole) in
    (there.1, found_by_id ps p up there.0)

pub part_is_of : (kind : PostKind) (from to : List ℕ) (limit offset : ℕ) (ps : List Post) → Rising ps
    → All (IsOf kind from to ps) (page_of kind from to limit offset ps)
part_is_of kind from to limit offset ps up = All-from_recursion (IsOf kind from to ps) (page_of kind from to limit offset ps)
    (all_from (IsOf kind from to ps) (page_of kind from to limit offset ps) (part_has kind from to limit offset ps up))

-- and each is the post that is found by its ID
pub found_in_part : (kind : PostKind) (from to : List ℕ) (limit offset : ℕ) (ps : List Post) → Rising ps → (p : Post)
    → Has (page_of kind from to limit offset ps) p → post_with p.id ps ≡ Some p
found_in_part kind from to limit offset ps up p h = (part_has kind from to limit offset ps up p h).1

-- ---- the posts of a site

module _ (h : Held MemStore) (is : IsSite h) where
  pub site_rises : Rising (rows_of h).posts
  site_rises = let ok = is.holds.sound.posts in rising_from (rows_of h).posts (subst IsTable (rows_are (trees_of h 0) ok.each) ok.ordered)

  pub site_given : All (λ p. p.id ≤ (rows_of h).largest) (rows_of h).posts
  site_given = All-from_recursion _ (rows_of h).posts is.holds.sound.given

  pub site_free : has_post ((rows_of h).largest + 1) (rows_of h).posts ≡ false
  site_free = next_is_free (rows_of h).posts (rows_of h).largest is.holds.sound.given

  pub site_dated : list_all (λ p. is_post_date p.date) (rows_of h).posts ≡ true
  site_dated = all_dated (rows_of h).posts (λ p there. (each_readable (trees_of h 0) is.holds.sound.posts p there).dated)
    where
      all_dated : (ps : List Post) → ((p : Post) → Has ps p → is_post_date p.date ≡ true) → list_all (λ p. is_post_date p.date) ps ≡ true
      all_dated [] each = refl
      all_dated (p ∷ ps) each = rw (each p (inl refl)) (all_dated ps (λ q h. each q (inr h)))
