-- What DELETE .. WHERE leaves of a table.
use Rattle.std.proofs.Common.{Equal, ◌≡◌, inl, inr, ℕ, ℤ, pos, negsuc, List, [], ◌∷◌, map, filter, Bool, true, false, not, ◌||◌, cond, refl, sym, ap}
use Rattle.std.proofs.Common.{subst, ◌∙◌, true≢false}
use Rattle.std.specs.List.{list_any}
use Rattle.std.specs.List.Sorted.{IsPermutation}
use Rattle.std.specs.Ordering.{is_eq}
use Rattle.std.proofs.lemmas.Bool.{cases_Bool, false_from_ne_true}
use Rattle.std.proofs.lemmas.Cmp.{tied_itself}
use Rattle.std.proofs.lemmas.List.Sorted.{Contains-permutation, IsPermutation-sym}
use Rattle.sqlite.specs.Order.{Row}
use Rattle.sqlite.specs.Term.{Term, lit, col}
use Rattle.sqlite.specs.Tree.{Trees, rowid, has_rowid, without_rowid, IsTable}
use Rattle.sqlite.specs.Query.{Query, IsAnswer, Output}
use Rattle.sqlite_trees.specs.View.{is_int}
use Rattle.sqlite_value.specs.declared.value.Value.TheVariants.{Int}
use Rattle.sqlite_value.specs.Order.{value_cmp}
use Rattle.sqlite_value.proofs.OrderLemmas.{value_cmp_total}
use Rattle.sqlite_rules.specs.Lists.{Has}
use Rattle.sqlite_rules.specs.Edit.{id_in, without_all, row_at}
use Rattle.sqlite_rules.specs.Calls.{ids_of}
use Rattle.sqlite_rules.proofs.ListLemmas.{has_contained, contains_had, has_filtered, has_kept, some_has, some_from}
use Rattle.sqlite_rules.proofs.TableLemmas.{int_is}
use Rattle.sqlite_rules.proofs.PlaceLemmas.{row_at_is}
use Rattle.table_rows.proofs.Lists.{mapped_from, mapped_has}
use Rattle.table_rows.proofs.Answering as reading

-- the rows whose rowid isn't one of these
without_is : (ids : List ℤ) (rows : List Row) → without_all rows ids ≡ filter (λ r. not (list_any (λ id. has_rowid id r) ids)) rows
without_is [] rows = keeps_all rows
  where
    keeps_all : (xs : List Row) → xs ≡ filter (λ r. true) xs
    keeps_all [] = refl
    keeps_all (x ∷ xs) = ap (λ l. x ∷ l) (keeps_all xs)
without_is (id ∷ ids) rows = without_is ids (without_rowid id rows) ∙ fused rows
  where
    fused : (xs : List Row) → filter (λ r. not (list_any (λ i. has_rowid i r) ids)) (filter (λ r. not (has_rowid id r)) xs)
        ≡ filter (λ r. not (has_rowid id r || list_any (λ i. has_rowid i r) ids)) xs
    fused [] = refl
    fused (x ∷ xs) = elim (has_rowid id x) as (λ b. filter (λ r. not (list_any (λ i. has_rowid i r) ids))
        (cond (not b) (x ∷ filter (λ r. not (has_rowid id r)) xs) (filter (λ r. not (has_rowid id r)) xs))
        ≡ cond (not (b || list_any (λ i. has_rowid i x) ids)) (x ∷ filter (λ r. not (has_rowid id r || list_any (λ i. has_rowid i r) ids)) xs)
        (filter (λ r. not (has_rowid id r || list_any (λ i. has_rowid i r) ids)) xs)) [
          | true ↦ fused xs
          | false ↦ elim (list_any (λ i. has_rowid i x) ids) as (λ b. cond (not b)
              (x ∷ filter (λ r. not (list_any (λ i. has_rowid i r) ids)) (filter (λ r. not (has_rowid id r)) xs))
              (filter (λ r. not (list_any (λ i. has_rowid i r) ids)) (filter (λ r. not (has_rowid id r)) xs))
              ≡ cond (not b) (x ∷ filter (λ r. not (has_rowid id r || list_any (λ i. has_rowid i r) ids)) xs)
              (filter (λ r. not (has_rowid id r || list_any (λ i. has_rowid i r) ids)) xs)) [ true ↦ fused xs | false ↦ ap (λ l. x ∷ l) (fused xs) ]
        ]

same_filter : (p q : Row → Bool) (rows : List Row) → ((r : Row) → Has rows r → p r ≡ q r) → filter p rows ≡ filter q rows
same_filter p q [] same = refl
same_filter p q (r ∷ rows) same = rw (same r (inl refl)) (ap (λ l. cond (q r) (r ∷ l) l) (same_filter p q rows (λ x h. same x (inr h))))

module _ (t : ℕ) (wheres : List Term) where
  abbrev pub query : Query
  query = reading.query t wheres (col 1 0 ∷ []) [] [] (lit (Int (negsuc 0))) (lit (Int (pos 0)))

  abbrev pub passes : Trees → Row → Row → Bool
  passes = reading.passes t wheres (col 1 0 ∷ []) [] [] (lit (Int (negsuc 0))) (lit (Int (pos 0)))

module _ (t : ℕ) (wheres : List Term) (db : Trees) (params : Row) (up : IsTable (db t)) (keyed : (r : Row) → Has (db t) r → is_int (rowid r) ≡ true) where
  abbrev passed : Row → Bool
  passed = passes t wheres db params

  abbrev out : Row → Output
  out r = ([], rowid r ∷ [])

  tied : (r : Row) → Has (db t) r → has_rowid (id_in (rowid r)) r ≡ true
  tied r h = let is : rowid r ≡ Int (id_in (rowid r)) = int_is (rowid r) (keyed r h) in ap is_eq
      (subst (λ v. value_cmp (rowid r) v ≡ Equal) is (tied_itself value_cmp_total (rowid r)))

  module _ (shown : List Row) (a : IsAnswer (query t wheres) db params shown) where
    order : IsPermutation (map out (filter passed (db t))) a.ordered
    order = reading.some_order t wheres (col 1 0 ∷ []) [] [] (lit (Int (negsuc 0))) (lit (Int (pos 0))) db params shown a

    -- the rowids that are shown are those of the rows that pass
    pub shown_id : (r : Row) → Has (db t) r → passed r ≡ true → Has (ids_of shown) (id_in (rowid r))
    shown_id r h is =
        let there = has_contained a.ordered (out r) (Contains-permutation _ _ (out r) order
        (contains_had _ (out r) (mapped_has out (filter passed (db t)) r (has_kept passed (db t) r h is)))) in
        subst (λ l. Has (ids_of l) (id_in (rowid r))) (sym a.shown) (mapped_has (λ x. id_in (rowid x)) _ (rowid r ∷ [])
        (mapped_has (λ (o : Output). o.1) a.ordered (out r) there))

    pub id_shown : (id : ℤ) → Has (ids_of shown) id → (r : Row) × Has (db t) r × (passed r ≡ true) × (id ≡ id_in (rowid r))
    id_shown id h =
        let row = mapped_from (λ x. id_in (rowid x)) shown id h in
        let o = mapped_from (λ (x : Output). x.1) a.ordered row.0 (subst (λ l. Has l row.0) a.shown row.1) in
        let r = mapped_from out (filter passed (db t)) o.0 (has_contained _ o.0
        (Contains-permutation _ _ o.0 (IsPermutation-sym _ _ order) (contains_had a.ordered o.0 o.1))) in
        let kept = has_filtered passed (db t) r.0 r.1 in
        (r.0, kept.0, kept.1, row.2 ∙ ap (λ x. id_in (rowid x)) (o.2 ∙ ap (λ (x : Output). x.1) r.2))

    pub listed : (r : Row) → Has (db t) r → list_any (λ id. has_rowid id r) (ids_of shown) ≡ passed r
    listed r h = elim (cases_Bool (passed r)) [
      | inl is ↦ some_from (λ id. has_rowid id r) (ids_of shown) (id_in (rowid r)) (shown_id r h is) (tied r h) ∙ sym is
      | inr other ↦ false_from_ne_true _ (λ any.
          let id = some_has (λ id. has_rowid id r) (ids_of shown) any in
          let s = id_shown id.0 id.1 in
          let one : row_at (db t) id.0 ≡ r = row_at_is (db t) id.0 r up h id.2 in
          let two : row_at (db t) id.0 ≡ s.0 = ap (row_at (db t)) s.3 ∙ row_at_is (db t) (id_in (rowid s.0)) s.0 up s.1 (tied s.0 s.1) in
          true≢false (sym s.2 ∙ ap passed (sym two ∙ one) ∙ other)) ∙ sym other
    ]

    pub deleted : without_all (db t) (ids_of shown) ≡ filter (λ r. not (passed r)) (db t)
    deleted = without_is (ids_of shown) (db t) ∙ same_filter _ _ (db t) (λ r h. ap not (listed r h))
