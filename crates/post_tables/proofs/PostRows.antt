-- Posts in the rows of their table.
use Rattle.std.proofs.Common.{◌≡◌, ◌⊎◌, inl, inr, ℕ, pos, ◌+◌, ◌<◌, ◌≤◌, List, [], ◌∷◌, map, filter, length, Bool, true, false, not, ◌==◌, nat_lt, cond}
use Rattle.std.proofs.Common.{Option, Some, None, is_some, refl, sym, ap, subst, ◌∙◌, arith, true≢false, Less, Equal}
use Rattle.std.specs.List.{AllByRecursion}
use Rattle.std.specs.Ordering.{is_eq, nat_cmp}
use Rattle.std.proofs.lemmas.Bool.{cases_Bool, or_parts, false_from_ne_true}
use Rattle.std.proofs.lemmas.Bool.Decides.{nat_tests}
use Rattle.std.proofs.lemmas.Cmp.{tied_itself}
use Rattle.sqlite.specs.Order.{Row}
use Rattle.sqlite_value.specs.declared.value.Value.TheVariants.{Int}
use Rattle.sqlite_value.specs.Order.{value_cmp}
use Rattle.sqlite_value.proofs.OrderLemmas.{value_cmp-Int, value_cmp_total}
use Rattle.sqlite_rules.specs.Lists.{Has}
use Rattle.sqlite_rules.specs.Edit.{is_taken}
use Rattle.sqlite_rules.proofs.ListLemmas.{all_has, all_from, has_filtered, some_from}
use Rattle.sqlite_rules.proofs.TableLemmas.{put_has}
use Rattle.sqlite_trees.proofs.TreeLemmas.{IsTable-put_row, IsShaped-filter}
use Rattle.sqlite_trees.specs.declared.store.Shape.TheVariants.{Table}
use Rattle.sqlite_trees.specs.View.{is_int}
use Rattle.sqlite.specs.Tree.{rowid, put_row, IsTable}
use Rattle.site_records.specs.declared.post.Post.{Post}
use Rattle.post_tables.specs.Rows.{with_post, without_post, has_post, post_with, PostEdit, edited_post, edited_posts}
use Rattle.post_tables.specs.Stored.{row_of, post_in, IsReadable, ArePosts}
use Rattle.table_rows.proofs.Lists.{mapped_has}
use Rattle.post_tables.proofs.Comparing.{pos_cmp}
use Rattle.post_tables.proofs.PageLemmas.{kind_back, status_back, Rising}

-- a row that was written for a post is read as that post
pub post_back : (p : Post) → post_in (row_of p) ≡ p
post_back p i = record p { kind = kind_back p.kind i; status = status_back p.status i }

pub same_posts : (p : Post) (rows : List Row) → ((r : Row) → Has rows r → r ≡ row_of (post_in r)) → is_taken rows (row_of p) ≡ false
    → map post_in (put_row (row_of p) rows) ≡ with_post p (map post_in rows)
same_posts p [] each free = ap (λ q. q ∷ []) (post_back p)
same_posts p (r ∷ rows) each free =
    let q : Post = post_in r in
    let cmp : value_cmp (rowid r) (Int (pos p.id)) ≡ nat_cmp q.id p.id = ap (λ x. value_cmp (rowid x) (Int (pos p.id))) (each r (inl refl))
    ∙ value_cmp-Int (pos q.id) (pos p.id) ∙ pos_cmp q.id p.id in
    let parts = or_parts _ _ free in
    elim (cases_Bool (nat_lt q.id p.id)) [
      | inl below ↦ rw (cmp, below) (ap (λ l. q ∷ l) (same_posts p rows (λ x h. each x (inr h)) parts.1))
      | inr above ↦ elim (cases_Bool (q.id == p.id)) [
        | inl same ↦
            let equal : nat_cmp q.id p.id ≡ Equal = rw (above, same) refl in
            absurd (true≢false (sym (ap is_eq (cmp ∙ equal)) ∙ parts.0))
        | inr other ↦ rw (cmp, above, other) (ap (λ x. x ∷ q ∷ map post_in rows) (post_back p))
      ]
    ]

pub still_posts : (p : Post) → IsReadable p → (rows : List Row) → ArePosts rows → ArePosts (put_row (row_of p) rows)
still_posts p good rows ok = record {
  ordered = IsTable-put_row (row_of p) rows ok.ordered;
  each = λ r h. elim (put_has (row_of p) rows r h) [
    | inl same ↦ subst (λ x. x ≡ row_of (post_in x)) (sym same) (ap row_of (sym (post_back p)))
    | inr was ↦
        ok.each r was
  ];
  readable = λ r h. elim (put_has (row_of p) rows r h) [
    | inl same ↦ subst (λ x. IsReadable (post_in x)) (sym same) (subst IsReadable (sym (post_back p)) good)
    | inr was ↦ ok.readable r was
  ];
}

pub mapped_filter : (id : ℕ) (p : Row → Bool) (rows : List Row) → ((r : Row) → Has rows r → p r ≡ ((post_in r).id == id))
    → map post_in (filter (λ r. not (p r)) rows) ≡ without_post id (map post_in rows)
mapped_filter id p [] same = refl
mapped_filter id p (r ∷ rows) same = rw (same r (inl refl)) (elim ((post_in r).id == id) as
    (λ b. map post_in (cond (not b) (r ∷ filter (λ x. not (p x)) rows) (filter (λ x. not (p x)) rows))
    ≡ cond (not b) (post_in r ∷ without_post id (map post_in rows)) (without_post id (map post_in rows)))
    [ true ↦ mapped_filter id p rows (λ x h. same x (inr h)) | false ↦ ap (λ l. post_in r ∷ l) (mapped_filter id p rows (λ x h. same x (inr h))) ])

pub none_has : (id : ℕ) (rows : List Row) → ((r : Row) → Has rows r → ((post_in r).id == id) ≡ false) → has_post id (map post_in rows) ≡ false
none_has id [] each = refl
none_has id (r ∷ rows) each = rw (each r (inl refl)) (none_has id rows (λ x h. each x (inr h)))

pub one_has : (id : ℕ) (rows : List Row) (r : Row) → Has rows r → ((post_in r).id == id) ≡ true → has_post id (map post_in rows) ≡ true
one_has id rows r h is = some_from (λ q. q.id == id) (map post_in rows) (post_in r) (mapped_has post_in rows r h) is

pub some_posts : (p : Row → Bool) (rows : List Row) → ArePosts rows → ArePosts (filter p rows)
some_posts p rows ok = record {
  ordered = (IsShaped-filter Table p rows (ok.ordered, all_from _ rows (λ r h. ap (λ x. is_int (rowid x)) (ok.each r h)))).0;
  each = λ r h. ok.each r (has_filtered p rows r h).0;
  readable = λ r h. ok.readable r (has_filtered p rows r h).0;
}

-- if no post has the ID, all stay
pub none_without : (id : ℕ) (ps : List Post) → has_post id ps ≡ false → without_post id ps ≡ ps
none_without id [] none = refl
none_without id (p ∷ ps) none =
    let first : (p.id == id) ≡ false = (or_parts (p.id == id) (has_post id ps) none).0 in
    let rest = none_without id ps (or_parts (p.id == id) (has_post id ps) none).1 in
    rw first (ap (λ l. p ∷ l) rest)

filter_none : (p : Row → Bool) (rows : List Row) → ((r : Row) → Has rows r → p r ≡ false) → filter p rows ≡ []
filter_none p [] each = refl
filter_none p (r ∷ rows) each = rw (each r (inl refl)) (filter_none p rows (λ x h. each x (inr h)))

-- one row has the rowid, or no row has it
pub one_or_none : (p : Row → Bool) (id : ℕ) (rows : List Row) → IsTable rows → ((r : Row) → Has rows r → r ≡ row_of (post_in r))
    → ((r : Row) → Has rows r → p r ≡ ((post_in r).id == id))
    → ((filter p rows ≡ []) × (post_with id (map post_in rows) ≡ None))
    ⊎ ((r : Row) × Has rows r × (filter p rows ≡ r ∷ []) × (post_with id (map post_in rows) ≡ Some (post_in r)) × ((post_in r).id ≡ id))
one_or_none p id [] up each tests = inl (refl, refl)
one_or_none p id (x ∷ rows) up each tests = elim (cases_Bool ((post_in x).id == id)) [
  | inl here ↦
      let is : (post_in x).id ≡ id = grind (arith, nat_tests) in
      let others : filter p rows ≡ [] = filter_none p rows (λ y h. false_from_ne_true _ (λ passes.
      let same : ((post_in y).id == id) ≡ true = sym (tests y (inr h)) ∙ passes in
      let also : (post_in y).id ≡ id = grind (arith, nat_tests) in
      let less : value_cmp (rowid x) (rowid y) ≡ Less = all_has _ rows y up.0 h in
      let at_x : rowid x ≡ Int (pos id) = ap rowid (each x (inl refl)) ∙ ap (λ n. Int (pos n)) is in
      let at_y : rowid y ≡ Int (pos id) = ap rowid (each y (inr h)) ∙ ap (λ n. Int (pos n)) also in
      let tie : value_cmp (rowid x) (rowid y) ≡ Equal = ap (λ v. value_cmp v (rowid y)) at_x ∙ ap (value_cmp (Int (pos id))) at_y
      ∙ tied_itself value_cmp_total (Int (pos id)) in
      absurd cc)) in
      let passed : p x ≡ true = tests x (inl refl) ∙ here in
      inr (x, inl refl, rw passed (ap (λ l. x ∷ l) others), rw here refl, is)
  | inr other ↦
      let failed : p x ≡ false = tests x (inl refl) ∙ other in
      elim (one_or_none p id rows up.1 (λ r h. each r (inr h)) (λ r h. tests r (inr h))) [
        | inl none ↦ inl (rw failed none.0, rw other none.1)
        | inr one ↦ inr (one.0, inr one.1, rw failed one.2, rw other one.3, one.4)
      ]
]

-- ---- an edit of one post

module _ (id : ℕ) (e : PostEdit) where
  -- if no post has the ID, all stay
  pub none_edited : (ps : List Post) → post_with id ps ≡ None → edited_posts id e ps ≡ ps
  none_edited [] none = refl
  none_edited (p ∷ ps) none = elim (cases_Bool (p.id == id)) [
    | inl here ↦ absurd (let found = rw here at none in cc)
    | inr other ↦ let more = rw other at none in rw other (ap (λ l. p ∷ l) (none_edited ps more))
  ]

  pub absent_edited : (ps : List Post) → has_post id ps ≡ false → edited_posts id e ps ≡ ps
  absent_edited [] none = refl
  absent_edited (p ∷ ps) none = elim (cases_Bool (p.id == id)) [
    | inl here ↦ absurd (let found = rw here at none in cc)
    | inr other ↦ let more = rw other at none in rw other (ap (λ l. p ∷ l) (absent_edited ps more))
  ]

  -- posts with larger IDs stay
  above_stay : (ps : List Post) → AllByRecursion (λ q. nat_cmp id q.id ≡ Less) ps → edited_posts id e ps ≡ ps
  above_stay [] up = refl
  above_stay (p ∷ ps) up = let first = up.0 in let other : (p.id == id) ≡ false = grind (arith, nat_tests) in rw other (ap (λ l. p ∷ l) (above_stay ps up.1))

  above_without : (ps : List Post) → AllByRecursion (λ q. nat_cmp id q.id ≡ Less) ps → without_post id ps ≡ ps
  above_without [] up = refl
  above_without (p ∷ ps) up = let first = up.0 in let other : (p.id == id)
      ≡ false = grind (arith, nat_tests) in rw other (ap (λ l. p ∷ l) (above_without ps up.1))

  above_first : (p : Post) (ps : List Post) → p.id ≡ id → AllByRecursion (λ q. nat_cmp id q.id ≡ Less) ps → with_post p ps ≡ p ∷ ps
  above_first p [] is up = refl
  above_first p (q ∷ ps) is up = let first = up.0 in let above : nat_lt q.id p.id ≡ false = grind (arith, nat_tests) in rw above refl

  -- the edited post comes back to its place
  pub one_edited : (ps : List Post) (q : Post) → Rising ps → post_with id ps ≡ Some q → with_post (edited_post e q) (without_post id ps) ≡ edited_posts id e ps
  one_edited [] q up found = absurd (let f = found in cc)
  one_edited (p ∷ ps) q up found = elim (cases_Bool (p.id == id)) [
    | inl here ↦
        let same : p ≡ q = some_same (rw here at found) in
        let is : p.id ≡ id = grind (arith, nat_tests) in
        let above : AllByRecursion (λ x. nat_cmp id x.id ≡ Less) ps = subst (λ n. AllByRecursion (λ x. nat_cmp n x.id ≡ Less) ps) is up.0 in
        rw (here, above_without ps above, above_stay ps above) (ap (λ x. with_post (edited_post e x) ps) (sym same) ∙ above_first (edited_post e p) ps is above)
    | inr other ↦
        let more : post_with id ps ≡ Some q = rw other at found in
        let has = found_has ps q more in
        let less : nat_cmp p.id q.id ≡ Less = all_has _ ps q up.0 has.0 in
        let below : nat_lt p.id q.id ≡ true = grind (arith, nat_tests) in
        rw (other, below) (ap (λ l. p ∷ l) (one_edited ps q up.1 more))
  ]
    where
      some_same : {x y : Post} → ◌≡◌ {A = Option Post} (Some x) (Some y) → x ≡ y
      some_same same = cc

      found_has : (xs : List Post) (y : Post) → post_with id xs ≡ Some y → Has xs y × (y.id ≡ id)
      found_has [] y none = absurd (let n = none in cc)
      found_has (x ∷ xs) y some = elim (cases_Bool (x.id == id)) [
        | inl this ↦ let same : x ≡ y = some_same (rw this at some) in let is : x.id
            ≡ id = grind (arith, nat_tests) in (inl (sym same), ap (λ (z : Post). z.id) (sym same) ∙ is)
        | inr that ↦ let rest = found_has xs y (rw that at some) in (inr rest.0, rest.1)
      ]

-- whether some post has the ID is whether one is found
pub any_is_found : (id : ℕ) (ps : List Post) → has_post id ps ≡ is_some (post_with id ps)
any_is_found id [] = refl
any_is_found id (p ∷ ps) = elim (cases_Bool (p.id == id)) [ inl here ↦ rw here refl | inr other ↦ rw other (any_is_found id ps) ]

pub absent_without : (id : ℕ) (ps : List Post) → has_post id ps ≡ false → without_post id ps ≡ ps
absent_without id [] none = refl
absent_without id (p ∷ ps) none = elim (cases_Bool (p.id == id)) [
  | inl here ↦ absurd (let found = rw here at none in cc)
  | inr other ↦ let more = rw other at none in rw other (ap (λ l. p ∷ l) (absent_without id ps more))
]

-- ---- no more posts than IDs

room : (n : ℕ) (p : Post) (ps : List Post) → Rising (p ∷ ps) → ((q : Post) → Has (p ∷ ps) q → q.id < n) → p.id + length (p ∷ ps) ≤ n
room n p [] up within = let low = within p (inl refl) in omega arith
room n p (q ∷ ps) up within =
    let rest = room n q ps up.1 (λ x h. within x (inr h)) in
    let first = up.0.0 in
    let less : p.id < q.id = grind (arith, nat_tests) in
    omega arith

pub few_posts : (n : ℕ) (ps : List Post) → Rising ps → ((q : Post) → Has ps q → q.id < n) → length ps ≤ n
few_posts n [] up within = omega arith
few_posts n (p ∷ ps) up within = let all = room n p ps up within in omega arith
