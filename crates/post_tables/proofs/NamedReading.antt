-- What the query of a table of names returns.
use Rattle.std.proofs.Common.{◌≡◌, inl, inr, ℕ, pos, negsuc, List, [], ◌∷◌, drop, map, filter, true, false, Ordering, Less, Equal, Greater, refl, sym, ap}
use Rattle.std.proofs.Common.{subst, ◌∙◌, true≢false}
use Rattle.std.specs.List.{AllByRecursion, IsDistinct}
use Rattle.std.specs.Ordering.{is_eq, eq_by_cmp, match_ordering}
use Rattle.std.specs.Cmp.Lexicographic.{nat_list_cmp_total}
use Rattle.std.specs.FinMap.{from_entries, entries, entries-insert, empty, len-empty, len-entries}
use Rattle.std.specs.FinMap.Entries.{put}
use Rattle.std.proofs.lemmas.Bool.{false_from_ne_true}
use Rattle.std.proofs.lemmas.Cmp.{tied_itself, on_total}
use Rattle.std.specs.Cmp.{IsTotalOrder}
use Rattle.sqlite.specs.Order.{Row}
use Rattle.sqlite.specs.Term.{Term, lit, col}
use Rattle.sqlite.specs.Tree.{rowid}
use Rattle.sqlite.specs.Query.{Query, output, output_cmp, Output}
use Rattle.sqlite.specs.Program.{overlay}
use Rattle.sqlite.specs.Command.TheVariants.{Select}
use Rattle.sqlite.specs.Listing.{understood, reads_listing}
use Rattle.sqlite_value.specs.declared.value.Value.{Value}
use Rattle.sqlite_value.specs.declared.value.Value.TheVariants.{Null, Int, Text}
use Rattle.sqlite_value.specs.declared.keys.Collation.TheVariants.{Binary}
use Rattle.sqlite_value.specs.declared.keys.Key.{Key}
use Rattle.sqlite_value.specs.Order.{value_cmp}
use Rattle.sqlite_value.proofs.OrderLemmas.{value_cmp-Text, value_cmp_total, then-Equal}
use Rattle.sqlite_rules.specs.Lists.{Has}
use Rattle.sqlite_rules.proofs.ListLemmas.{all_has, all_from}
use Rattle.sqlite_trees.specs.declared.memory.MemStore.{MemStore}
use Rattle.sqlite.specs.Held.{Held, state}
use Rattle.sqlite.specs.Steps.{over_memory}
use Rattle.sqlite.specs.State.{Shown}
use Rattle.sqlite.proofs.Callers.{IsPlain, command_of, reads_as}
use Rattle.post_tables.specs.Schema.{site_schema}
use Rattle.table_rows.specs.Sorting.{in_order, put_sorted}
use Rattle.post_tables.specs.Rows.{by_bytes}
use Rattle.post_tables.specs.Stored.{IsText, IsSite, trees_of, AreNamed, IsNamed, named_in, name_in}
use Rattle.table_rows.proofs.Lists.{mapped_from}
use Rattle.post_tables.proofs.Comparing.{equal_is, tied_text, nil_of}
use Rattle.post_tables.proofs.NamedTable.{NamedTable}
use Rattle.post_tables.proofs.NamedRows.{pair}
use Rattle.table_rows.proofs.SortLemmas.{sorted_mapped, sorted_had}
use Rattle.table_rows.proofs.Answering as reading
use Rattle.post_tables.proofs.Refusing.{IsWhole, IsSafe}
use Rattle.sqlite_typing.specs.Types.{accepts_program}

abbrev pub orders : List (Term × Key)
orders = (col 1 1, record { collation = Binary; descending = false }) ∷ []

module _ {V : Type 0} where
  abbrev by_name : List ℕ × V → List ℕ × V → Ordering
  by_name a b = by_bytes a.0 b.0

  by_name_total : IsTotalOrder by_name
  by_name_total = on_total (λ p. p.0) nat_list_cmp_total

  -- no two have one name
  Apart : List (List ℕ × V) → Type 0
  Apart = IsDistinct (eq_by_cmp by_name)

  put_same : (k : List ℕ) (v : V) (es : List (List ℕ × V)) → ((e : List ℕ × V) → Has es e → eq_by_cmp by_name (k, v) e ≡ false)
      → put by_bytes k v es ≡ put_sorted by_name (k, v) es
  put_same k v [] apart = refl
  put_same k v (e ∷ es) apart = go (by_bytes k e.0) refl (apart e (inl refl)) (put_same k v es (λ x h. apart x (inr h)))
    where
      go : (o : Ordering) → by_bytes k e.0 ≡ o → is_eq (by_bytes k e.0) ≡ false → put by_bytes k v es ≡ put_sorted by_name (k, v) es
          → put by_bytes k v (e ∷ es) ≡ match_ordering o ((k, v) ∷ e ∷ es) ((k, v) ∷ e ∷ es) (e ∷ put_sorted by_name (k, v) es)
      go Less is h later = rw is refl
      go Equal is h later = absurd (true≢false (sym (ap is_eq is) ∙ h))
      go Greater is h later = rw is (ap (λ l. e ∷ l) later)

  pub no_entries : entries (empty {X = V} {R = by_bytes}) ≡ []
  no_entries = nil_of (entries (empty {X = V} {R = by_bytes})) (sym (len-entries (empty {X = V} {R = by_bytes})) ∙ len-empty by_bytes V)

  -- the entries of the map are the pairs in order
  entries_are : (ps : List (List ℕ × V)) → Apart ps → entries (from_entries {R = by_bytes} ps) ≡ in_order by_name ps
  unfolding Apart IsDistinct
  entries_are [] apart = no_entries
  entries_are (p ∷ ps) apart =
      entries-insert nat_list_cmp_total (from_entries ps) p.0 p.1 ∙ ap (put by_bytes p.0 p.1) (entries_are ps apart.1)
      ∙ put_same p.0 p.1 (in_order by_name ps) (λ e h. all_has _ ps e apart.0 (sorted_had by_name by_name_total ps e h))

names_apart : {V : Type 0} (rest : V → Row) (value_in : Row → V) (rows : List Row) → AreNamed rest value_in rows → Apart (map (pair value_in) rows)
unfolding Apart IsDistinct
names_apart rest value_in [] ok = tt
names_apart rest value_in (r ∷ rows) ok = (
  all_from _ (map (pair value_in) rows) (λ p h. let s = mapped_from (pair value_in) rows p h in false_from_ne_true _ (λ tied.
      let same : name_in r ≡ name_in s.0 = tied_text (name_in r) (name_in s.0)
      (value_cmp-Text _ _ ∙ subst (λ q. by_bytes (name_in r) q.0 ≡ Equal) s.2 (equal_is _ tied)) in
      let is : r ≡ s.0 = ok.distinct r s.0 (inl refl) (inr s.1) same in
      let less : value_cmp (rowid r) (rowid s.0) ≡ Less = all_has _ rows s.0 ok.ordered.0 s.1 in
      let tie : value_cmp (rowid r) (rowid s.0) ≡ Equal = subst (λ x. value_cmp (rowid r) (rowid x) ≡ Equal) is (tied_itself value_cmp_total (rowid r)) in
      absurd cc)),
  names_apart rest value_in rows (record { ordered = ok.ordered.1; each = λ x h. ok.each x (inr h); distinct = λ x y p q. ok.distinct x y (inr p) (inr q) }),
)

module _ {V : Type 0} {rest : V → Row} {value_in : Row → V} (k : NamedTable rest value_in) where
  abbrev query : List Term → Query
  query projects = reading.query k.tree [] projects [] orders (lit (Int (negsuc 0))) (lit (Int (pos 0)))

  abbrev pub shown : List ℕ × V → Row
  shown p = Text p.0 ∷ rest p.1

  abbrev out : List ℕ × V → Output
  out p = (Text p.0 ∷ [], shown p)

  pub record SelectText (text : List ℕ) : Type 0 where
    pub projects : List Term
    pub names : List (List ℕ)
    pub is : command_of (understood site_schema text) ≡ Select (record { lets = []; body = query projects }) names
    pub unlisted : reads_listing site_schema text ≡ false
    pub plain : IsPlain (understood site_schema text)
    pub whole : IsWhole text 0 (understood site_schema text)
    pub typed : accepts_program site_schema [] (query projects) [] ≡ true
    pub shows : (z : Value) (name : List ℕ) (v : V) → output (query projects) ([] ∷ (z ∷ Text name ∷ rest v) ∷ []) ≡ out (name, v)

  pub names_safe : (sql : List ℕ) → SelectText sql → IsSafe sql []
  names_safe sql x = record {
    query = query x.projects;
    names = x.names;
    is = x.is;
    unlisted = x.unlisted;
    plain = x.plain;
    whole = x.whole;
    typed = x.typed;
    sums = λ db. reading.never_sums k.tree [] x.projects [] orders (lit (Int (negsuc 0))) (lit (Int (pos 0))) db [];
  }

  -- each of the names and values is a text
  pub names_texts : (rows : List Row) → AreNamed rest value_in rows → (p : List ℕ × V) → Has (entries (named_in value_in rows)) p
      → AllByRecursion IsText (shown p)
  names_texts rows ok p h =
      let ps : List (List ℕ × V) = map (pair value_in) rows in
      let there : Has ps p = sorted_had by_name by_name_total ps p (subst (λ l. Has l p) (entries_are ps (names_apart rest value_in rows ok)) h) in
      let r = mapped_from (pair value_in) rows p there in
      let named = ok.each r.0 r.1 in
      subst (λ q. AllByRecursion IsText (shown q)) (sym r.2) (subst (AllByRecursion IsText) (ap (drop 1) named.1) named.2)

  module _ (sql : List ℕ) (x : SelectText sql) where
    by_name_is : (a b : List ℕ × V) → output_cmp (query x.projects) (out a) (out b) ≡ by_name a b
    by_name_is a b = rw (value_cmp-Text, then-Equal) refl

    outs_apart : (ps : List (List ℕ × V)) → Apart ps → IsDistinct (eq_by_cmp (output_cmp (query x.projects))) (map out ps)
    unfolding Apart IsDistinct
    outs_apart [] apart = tt
    outs_apart (p ∷ ps) apart = (
      all_from _ (map out ps) (λ o h. let b = mapped_from out ps o h in rw (b.2, by_name_is p b.0) (all_has _ ps b.0 apart.0 b.1)),
      outs_apart ps apart.1,
    )

    abbrev shows : Row → Output
    shows r = output (query x.projects) ([] ∷ r ∷ [])

    outs_are : (rows : List Row) → ((r : Row) → Has rows r → IsNamed rest value_in r) → map shows (filter (λ r. true) rows) ≡ map out (map (pair value_in) rows)
    outs_are [] each = refl
    outs_are (r ∷ rows) each =
        let first : shows r ≡ out (pair value_in r) = ap shows (each r (inl refl)).1 ∙ x.shows (rowid r) (name_in r) (value_in r) in
        let others = outs_are rows (λ y h. each y (inr h)) in λ i. first i ∷ others i

    first_shown : (ps : List (List ℕ × V)) → map (λ (o : Output). o.1) (map out ps) ≡ map shown ps
    first_shown [] = refl
    first_shown (p ∷ ps) = ap (λ l. shown p ∷ l) (first_shown ps)

    pub names_read : (old new : Held MemStore) (rows : List Row) → IsSite old → AreNamed rest value_in (trees_of old k.tree)
        → Shown sql [] (state over_memory old) (state over_memory new) rows
        → rows ≡ map shown (entries (named_in value_in (trees_of old k.tree)))
    names_read old new rows is named h =
        let read = reads_as sql [] (state over_memory old) (state over_memory new) site_schema is.holds.schema_is
        (Select (record { lets = []; body = query x.projects }) x.names) x.is x.plain x.unlisted rows h in
        let ps : List (List ℕ × V) = map (pair value_in) (trees_of old k.tree) in
        let distinct = names_apart rest value_in (trees_of old k.tree) named in
        let outs = ap (λ l. map shows (filter (λ r. true) l)) (k.over (trees_of old)) ∙ outs_are (trees_of old k.tree) named.each in
        let all = reading.answer_is k.tree [] x.projects [] orders (lit (Int (negsuc 0))) (lit (Int (pos 0))) (overlay (trees_of old) []) [] rows
        (read.answer Null)
        (subst (IsDistinct (eq_by_cmp (output_cmp (query x.projects)))) (sym outs) (outs_apart ps distinct)) in
        all ∙ ap (λ l. map (λ (o : Output). o.1) (in_order (output_cmp (query x.projects)) l)) outs
        ∙ ap (map (λ (o : Output). o.1)) (sym (sorted_mapped by_name (output_cmp (query x.projects)) out by_name_is ps))
        ∙ first_shown (in_order by_name ps) ∙ ap (map shown) (sym (entries_are ps distinct))
