-- What a replaced or deleted row makes of the map of names.
use Rattle.std.proofs.Common.{◌≡◌, ◌≢◌, ◌⊎◌, inl, inr, ℕ, ℤ, List, [], ◌∷◌, map, filter, Bool, true, false, not, cond, Some, None, Equal, refl, sym, ap}
use Rattle.std.proofs.Common.{subst, ◌∙◌, true≢false}
use Rattle.std.specs.List.{AllByRecursion}
use Rattle.std.specs.Ordering.{is_eq, eq_by_cmp}
use Rattle.std.specs.Cmp.Lexicographic.{nat_list_cmp_total}
use Rattle.std.specs.FinMap.{insert, remove, same_map, get-from_entries, get-insert, get-remove, slice_cmp-IsAntisymmetric, nat_cmp-IsAntisymmetric}
use Rattle.std.specs.FinMap.Entries.{find}
use Rattle.std.proofs.lemmas.Bool.{cases_Bool, and_from, not-true, false_from_ne_true}
use Rattle.std.proofs.lemmas.Cmp.{tied_itself}
use Rattle.sqlite.specs.Order.{Row}
use Rattle.sqlite_value.specs.declared.value.Value.TheVariants.{Int, Text}
use Rattle.sqlite_value.specs.declared.keys.Collation.TheVariants.{Binary}
use Rattle.sqlite_value.specs.Order.{column, value_cmp}
use Rattle.sqlite_value.proofs.OrderLemmas.{value_cmp_total}
use Rattle.sqlite_schema.specs.Rules.{equal}
use Rattle.sqlite_trees.specs.Tree.{rowid, has_rowid, put_row, without_rowid, IsTable}
use Rattle.sqlite_trees.specs.View.{is_int}
use Rattle.sqlite_rules.specs.Lists.{Has}
use Rattle.sqlite_rules.specs.Calls.{ids_of}
use Rattle.sqlite_rules.specs.Keys.{AreConflicts, conflicts}
use Rattle.sqlite_rules.specs.Edit.{id_in, without_all, row_at, is_taken, next_rowid}
use Rattle.sqlite_rules.proofs.ListLemmas.{has_filtered, has_kept, all_from, some_from}
use Rattle.sqlite_rules.specs.declared.error.Rowids.TheVariants.{Chosen}
use Rattle.sqlite_rules.proofs.TableLemmas.{int_is, put_has, has_put, without_all_has, put_all_keeps}
use Rattle.sqlite_trees.proofs.TreeLemmas.{IsTable-put_row, IsShaped-filter}
use Rattle.sqlite_trees.specs.declared.store.Shape.TheVariants.{Table}
use Rattle.std.specs.Prelude.{IsTrue}
use Rattle.sqlite_rules.proofs.PlaceLemmas.{row_at_is, left_or_taken, next_is_free}
use Rattle.post_tables.specs.Schema.{site_schema, named_table}
use Rattle.post_tables.specs.Rows.{by_bytes}
use Rattle.post_tables.specs.Stored.{name_in, IsText, IsNamed, AreNamed, named_in}
use Rattle.table_rows.proofs.Lists.{mapped_from, mapped_has}
use Rattle.post_tables.proofs.Comparing.{equal_is, equal_tied, tied_text, equal_text}
use Rattle.post_tables.proofs.NamedTable.{NamedTable, met}

met_is : (a b : Bool) → met a b ≡ true → (a ≡ true) ⊎ (b ≡ true)
met_is true b h = inl refl
met_is false true h = inr refl
met_is false false h = absurd (true≢false (sym h))

met_from : (a b : Bool) → b ≡ true → met a b ≡ true
met_from true b h = refl
met_from false true h = refl
met_from false false h = absurd (true≢false (sym h))

-- what was taken out has no rowid of those
gone_lacks : (ids : List ℤ) (rows : List Row) (x : Row) → Has (without_all rows ids) x → (id : ℤ) → Has ids id → has_rowid id x ≡ false
gone_lacks [] rows x h id none = absurd none
gone_lacks (i ∷ ids) rows x h id (inl same) =
    let was = has_filtered (λ r. not (has_rowid i r)) rows x (without_all_has ids (without_rowid i rows) x h) in rw same (not-true _ was.1)
gone_lacks (i ∷ ids) rows x h id (inr more) = gone_lacks ids (without_rowid i rows) x h id more

left_is_table : (ids : List ℤ) (rows : List Row) → IsTable rows → AllByRecursion (λ r. IsTrue (is_int (rowid r))) rows → IsTable (without_all rows ids)
left_is_table [] rows up keyed = up
left_is_table (id ∷ ids) rows up keyed = let both = IsShaped-filter Table (λ r. not (has_rowid id r)) rows (up, keyed) in left_is_table ids
    (without_rowid id rows) both.0 both.1

same_name : (a b : List ℕ) → eq_by_cmp by_bytes a b ≡ true → a ≡ b
same_name a b h = slice_cmp-IsAntisymmetric nat_cmp-IsAntisymmetric a b (equal_is _ h)

name_itself : (a : List ℕ) → eq_by_cmp by_bytes a a ≡ true
name_itself a = ap is_eq (tied_itself nat_list_cmp_total a)

apart_names : (q n : List ℕ) → eq_by_cmp by_bytes q n ≡ false → (x : List ℕ) → x ≡ q → x ≢ n
apart_names q n other x is same = true≢false (sym (name_itself q) ∙ ap (eq_by_cmp by_bytes q) (sym is ∙ same) ∙ other)

named_or_not : (rows : List Row) (q : List ℕ) → ((r : Row) × Has rows r × (name_in r ≡ q)) ⊎ ((r : Row) → Has rows r → name_in r ≢ q)
named_or_not [] q = inr (λ r none. absurd none)
named_or_not (x ∷ rows) q = elim (cases_Bool (eq_by_cmp by_bytes q (name_in x))) [
  | inl here ↦ inl (x, inl refl, sym (same_name q (name_in x) here))
  | inr other ↦ elim (named_or_not rows q) [
    | inl some ↦ inl (some.0, inr some.1, some.2)
    | inr none ↦ inr (λ r h same. elim h [
      | inl is ↦ true≢false (sym (name_itself q) ∙ ap (eq_by_cmp by_bytes q) (sym same ∙ ap name_in is) ∙ other)
      | inr more ↦ none r more same
    ])
  ]
]

module _ {V : Type 0} (value_in : Row → V) where
  abbrev pub pair : Row → List ℕ × V
  pair r = (name_in r, value_in r)

  find_none : (rows : List Row) (q : List ℕ) → ((r : Row) → Has rows r → name_in r ≢ q) → find by_bytes q (map pair rows) ≡ None
  find_none [] q none = refl
  find_none (x ∷ rows) q none =
      rw (false_from_ne_true _ (λ here. none x (inl refl) (sym (same_name q (name_in x) here)))) (find_none rows q (λ r h. none r (inr h)))

  find_at : (rows : List Row) (r : Row) → ((x y : Row) → Has rows x → Has rows y → name_in x ≡ name_in y → x ≡ y) → Has rows r
      → find by_bytes (name_in r) (map pair rows) ≡ Some (value_in r)
  find_at [] r distinct h = absurd h
  find_at (x ∷ rows) r distinct h = elim (cases_Bool (eq_by_cmp by_bytes (name_in r) (name_in x))) [
    | inl here ↦ rw here (ap (λ y. Some (value_in y)) (distinct x r (inl refl) h (sym (same_name _ _ here))))
    | inr other ↦ elim h [
      | inl is ↦ absurd (true≢false (sym (name_itself (name_in r)) ∙ ap (λ y. eq_by_cmp by_bytes (name_in r) (name_in y)) is ∙ other))
      | inr more ↦ rw other (find_at rows r (λ a b p q. distinct a b (inr p) (inr q)) more)
    ]
  ]

module _ {V : Type 0} {rest : V → Row} {value_in : Row → V} (k : NamedTable rest value_in) where
  -- the row that is put in
  abbrev pub put_in : List Row → List ℕ → V → Row
  put_in rows name v = Int (next_rowid rows) ∷ Text name ∷ rest v

  -- what is left, and what was taken out
  pub record IsReplaced (rows next : List Row) (name : List ℕ) (v : V) : Type 0 where
    pub found : List Row
    pub conflicts_are : AreConflicts None site_schema.indexes (named_table k.title k.tree k.columns) rows (put_in rows name v) found
    pub free : is_taken (without_all rows (ids_of found)) (put_in rows name v) ≡ false
    pub is : next ≡ put_row (put_in rows name v) (without_all rows (ids_of found))

  module _ (rows : List Row) (ok : AreNamed rest value_in rows) (name : List ℕ) (v : V) (found : List Row)
      (met_are : AreConflicts None site_schema.indexes (named_table k.title k.tree k.columns) rows (put_in rows name v) found) where
    free_id : is_taken rows (put_in rows name v) ≡ false
    free_id = next_is_free Chosen rows (Text name ∷ rest v) ok.ordered (all_from _ rows (λ r h. (ok.each r h).0))

    -- a row that meets the new one has its name
    meets : (r : Row) → Has rows r → conflicts None site_schema.indexes (named_table k.title k.tree k.columns) (put_in rows name v) r ≡ true → name_in r ≡ name
    meets r h is = elim (met_is _ _ (sym (k.conflict_is r (next_rowid rows) name v) ∙ is)) [
      | inl same ↦ absurd (true≢false (sym (some_from (λ y. is_eq (value_cmp (rowid y) (Int (next_rowid rows)))) rows r h (ap is_eq (equal_tied _ _ same)))
          ∙ free_id))
      | inr named ↦ let is_text : column r 1 ≡ Text (name_in r) = ap (λ x. column x 1) (ok.each r h).1 in tied_text (name_in r) name
          (rw is_text at (equal_tied _ _ named))
    ]

    -- and the other way round
    met_by : (r : Row) → Has rows r → name_in r ≡ name → conflicts None site_schema.indexes (named_table k.title k.tree k.columns) (put_in rows name v) r ≡ true
    met_by r h is =
        let is_text : column r 1 ≡ Text name = ap (λ x. column x 1) (ok.each r h).1 ∙ ap Text is in
        k.conflict_is r (next_rowid rows) name v ∙ met_from (equal Binary (rowid r) (Int (next_rowid rows))) _ (rw is_text (equal_text name))

    rowid_of : (r : Row) → Has rows r → has_rowid (id_in (rowid r)) r ≡ true
    rowid_of r h = let is : rowid r ≡ Int (id_in (rowid r)) = int_is (rowid r) (ok.each r h).0 in
        ap is_eq (subst (λ x. value_cmp (rowid r) x ≡ Equal) is (tied_itself value_cmp_total (rowid r)))

    left_other : (x : Row) → Has (without_all rows (ids_of found)) x → Has rows x × (name_in x ≢ name)
    left_other x h =
        let was = without_all_has (ids_of found) rows x h in (
          was,
          λ same. true≢false (sym (rowid_of x was) ∙ gone_lacks (ids_of found) rows x h (id_in (rowid x))
              (mapped_has (λ r. id_in (rowid r)) found (rowid x ∷ []) (met_are.complete x was (met_by x was same)))),
        )

    other_left : (x : Row) → Has rows x → name_in x ≢ name → Has (without_all rows (ids_of found)) x
    other_left x h other = elim (left_or_taken rows (ids_of found) x ok.ordered h) [
      | inl stays ↦ stays
      | inr taken ↦
          let id = mapped_from (row_at rows) (ids_of found) x taken in
          let f = mapped_from (λ r. id_in (rowid r)) found id.0 id.1 in
          let r = met_are.sound f.0 f.1 in
          let id_is : id.0 ≡ id_in (rowid r.0) = f.2 ∙ ap (λ y. id_in (rowid y)) r.3 in
          let same : x ≡ r.0 = id.2 ∙ ap (row_at rows) id_is ∙ row_at_is rows (id_in (rowid r.0)) r.0 ok.ordered r.1 (rowid_of r.0 r.1) in
          absurd (other (ap name_in same ∙ meets r.0 r.1 r.2))
    ]

  -- ---- the rows with another name, and the new one among them

  pub record IsSet (rows next : List Row) (name : List ℕ) (v : V) : Type 0 where
    pub id : ℤ
    pub kept : List Row
    pub ordered : IsTable kept
    pub left : (x : Row) → Has kept x → Has rows x × (name_in x ≢ name)
    pub stays : (x : Row) → Has rows x → name_in x ≢ name → Has kept x
    pub free : is_taken kept (Int id ∷ Text name ∷ rest v) ≡ false
    pub is : next ≡ put_row (Int id ∷ Text name ∷ rest v) kept

  pub set_by_replacing : (rows next : List Row) → AreNamed rest value_in rows → (name : List ℕ) (v : V) → IsReplaced rows next name v → IsSet rows next name v
  set_by_replacing rows next ok name v made = record {
    id = next_rowid rows;
    kept = without_all rows (ids_of made.found);
    ordered = left_is_table (ids_of made.found) rows ok.ordered (all_from _ rows (λ r h. (ok.each r h).0));
    left = left_other rows ok name v made.found made.conflicts_are;
    stays = other_left rows ok name v made.found made.conflicts_are;
    free = made.free;
    is = made.is;
  }

  -- ---- the map

  module _ (rows next : List Row) (name : List ℕ) (v : V) (texts : AllByRecursion IsText (Text name ∷ rest v)) (ok : AreNamed rest value_in rows)
      (made : IsSet rows next name v) where
    abbrev new : Row
    new = Int made.id ∷ Text name ∷ rest v

    abbrev kept : List Row
    kept = made.kept

    was : (x : Row) → Has next x → (x ≡ new) ⊎ (Has rows x × (name_in x ≢ name))
    was x h = elim (put_has new kept x (subst (λ l. Has l x) made.is h)) [
      | inl same ↦ inl same
      | inr stays ↦ inr (made.left x stays)
    ]

    keeps : (x : Row) → Has rows x → name_in x ≢ name → Has next x
    keeps x h other = subst (λ l. Has l x) (sym made.is)
        (put_all_keeps (new ∷ []) kept x (and_from _ _ (rw made.free refl) refl) (made.stays x h other))

    adds : Has next new
    adds = subst (λ l. Has l new) (sym made.is) (has_put new kept)

    one_each : (x y : Row) → Has next x → Has next y → name_in x ≡ name_in y → x ≡ y
    one_each x y p q same = elim (was x p) [
      | inl new_x ↦ elim (was y q) [
        | inl new_y ↦ new_x ∙ sym new_y
        | inr old_y ↦ absurd (old_y.1 (sym same ∙ ap name_in new_x))
      ]
      | inr old_x ↦ elim (was y q) [
        | inl new_y ↦ absurd (old_x.1 (same ∙ ap name_in new_y))
        | inr old_y ↦ ok.distinct x y old_x.0 old_y.0 same
      ]
    ]

    pub still_named : AreNamed rest value_in next
    still_named = record {
      ordered = subst IsTable (sym made.is) (IsTable-put_row new kept made.ordered);
      each = λ r h. elim (was r h) [
        | inl same ↦ subst (IsNamed rest value_in) (sym same)
            (refl, ap (λ x. Int made.id ∷ Text name ∷ rest x) (sym (k.value_of (Int made.id) name v)), texts)
        | inr old ↦ ok.each r old.0
      ];
      distinct = one_each;
    }

    same_at : (q : List ℕ) → find by_bytes q (map (pair value_in) next) ≡ cond (eq_by_cmp by_bytes q name) (Some v) (find by_bytes q (map (pair value_in) rows))
    same_at q = elim (cases_Bool (eq_by_cmp by_bytes q name)) [
      | inl here ↦ rw (here, same_name q name here) (find_at value_in next new one_each adds ∙ ap Some (k.value_of (Int made.id) name v))
      | inr other ↦ rw other (elim (named_or_not rows q) [
        | inl some ↦
            let apart : name_in some.0 ≢ name = apart_names q name other (name_in some.0) some.2 in
            rw (← some.2) (find_at value_in next some.0 one_each (keeps some.0 some.1 apart) ∙ sym (find_at value_in rows some.0 ok.distinct some.1))
        | inr none ↦ find_none value_in next q (λ r h same. elim (was r h) [
          | inl is ↦ true≢false (sym (name_itself q) ∙ ap (eq_by_cmp by_bytes q) (sym same ∙ ap name_in is) ∙ other)
          | inr old ↦ none r old.0 same
        ]) ∙ sym (find_none value_in rows q none)
      ])
    ]

    pub named_set : named_in value_in next ≡ insert (named_in value_in rows) name v
    named_set = same_map nat_list_cmp_total (slice_cmp-IsAntisymmetric nat_cmp-IsAntisymmetric) _ _ (λ q.
        get-from_entries nat_list_cmp_total _ q ∙ same_at q ∙ sym (get-insert nat_list_cmp_total _ name v q
        ∙ ap (cond (eq_by_cmp by_bytes q name) (Some v)) (get-from_entries nat_list_cmp_total _ q)))

-- ---- a name is taken away

module _ {V : Type 0} {rest : V → Row} {value_in : Row → V} (rows : List Row) (ok : AreNamed rest value_in rows) (name : List ℕ) (p : Row → Bool)
    (tests : (r : Row) → Has rows r → p r ≡ eq_by_cmp by_bytes name (name_in r)) where
  abbrev others : List Row
  others = filter (λ r. not (p r)) rows

  stays : (r : Row) → Has others r → Has rows r × (name_in r ≢ name)
  stays r h =
      let it = has_filtered (λ x. not (p x)) rows r h in
      (it.0, λ same. true≢false (sym (name_itself name) ∙ ap (eq_by_cmp by_bytes name) (sym same) ∙ sym (tests r it.0) ∙ not-true _ it.1))

  is_kept : (r : Row) → Has rows r → name_in r ≢ name → Has others r
  is_kept r h other = has_kept (λ x. not (p x)) rows r h (rw (tests r h, false_from_ne_true _ (λ same. other (sym (same_name name (name_in r) same)))) refl)

  pub others_named : AreNamed rest value_in others
  others_named = record {
    ordered = (IsShaped-filter Table (λ r. not (p r)) rows (ok.ordered, all_from _ rows (λ r h. (ok.each r h).0))).0;
    each = λ r h. ok.each r (stays r h).0;
    distinct = λ x y h g. ok.distinct x y (stays x h).0 (stays y g).0;
  }

  left_at : (q : List ℕ) → find by_bytes q (map (pair value_in) others) ≡ cond (eq_by_cmp by_bytes q name) None (find by_bytes q (map (pair value_in) rows))
  left_at q = elim (cases_Bool (eq_by_cmp by_bytes q name)) [
    | inl here ↦ rw here (find_none value_in others q (λ r h same. (stays r h).1 (same ∙ same_name q name here)))
    | inr other ↦ rw other (elim (named_or_not rows q) [
      | inl some ↦
          let apart : name_in some.0 ≢ name = apart_names q name other (name_in some.0) some.2 in
          rw (← some.2) (find_at value_in others some.0 others_named.distinct (is_kept some.0 some.1 apart)
          ∙ sym (find_at value_in rows some.0 ok.distinct some.1))
      | inr none ↦ find_none value_in others q (λ r h. none r (stays r h).0) ∙ sym (find_none value_in rows q none)
    ])
  ]

  pub named_removed : named_in value_in others ≡ remove (named_in value_in rows) name
  named_removed = same_map nat_list_cmp_total (slice_cmp-IsAntisymmetric nat_cmp-IsAntisymmetric) _ _ (λ q.
      get-from_entries nat_list_cmp_total _ q ∙ left_at q ∙ sym (get-remove nat_list_cmp_total _ name q
      ∙ ap (cond (eq_by_cmp by_bytes q name) None) (get-from_entries nat_list_cmp_total _ q)))
