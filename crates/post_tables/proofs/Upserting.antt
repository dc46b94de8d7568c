-- What INSERT .. ON CONFLICT (name) DO UPDATE makes of a table of texts under names.
use Rattle.std.proofs.Common.{◌≡◌, ◌≢◌, ◌/◌, inl, inr, ℕ, ℤ, pos, negsuc, List, [], ◌∷◌, ◌++◌, map, filter, length, Bool, true, false, not, ◌&&◌, Option}
use Rattle.std.proofs.Common.{Some, None, Ok, refl, sym, ap, ap₂, subst, ◌∙◌, true≢false}
use Rattle.std.specs.List.{IsDistinct}
use Rattle.std.specs.Ordering.{is_eq, eq_by_cmp}
use Rattle.std.proofs.lemmas.Bool.{cases_Bool, and_parts, not-true, false_from_ne_true}
use Rattle.std.proofs.lemmas.Cmp.{tied_itself}
use Rattle.sqlite.specs.Order.{Row}
use Rattle.sqlite_value.specs.declared.value.Value.TheVariants.{Null, Int, Text}
use Rattle.sqlite_value.specs.declared.keys.Collation.TheVariants.{Binary}
use Rattle.sqlite_value.specs.Order.{column, value_cmp}
use Rattle.sqlite_value.proofs.OrderLemmas.{value_cmp_total}
use Rattle.sqlite_sql.specs.Ops.{binary, from_truth, is_true}
use Rattle.sqlite_sql.specs.declared.ops.BinaryOp.TheVariants.{Compare}
use Rattle.sqlite_sql.specs.declared.ops.CompareOp.TheVariants.{Eq}
use Rattle.sqlite_sql.specs.Term.{op2}
use Rattle.sqlite.specs.Term.{Term, lit, col}
use Rattle.sqlite.specs.Query.{Query, output, output_cmp, Output, IsAnswer}
use Rattle.sqlite.specs.Program.{overlay}
use Rattle.sqlite.specs.Tree.{Trees, rowid, has_rowid, put_row, without_rowid, IsTable}
use Rattle.sqlite.specs.Source.TheVariants.{Values}
use Rattle.sqlite_schema.specs.Rules.{equal}
use Rattle.sqlite_schema.specs.declared.command.Command.{Command}
use Rattle.sqlite_schema.specs.declared.command.Command.TheVariants.{InsertOr}
use Rattle.sqlite_schema.specs.declared.command.Conflict.TheVariants.{Abort}
use Rattle.sqlite_schema.specs.declared.command.Upsert.{Upsert}
use Rattle.sqlite_schema.specs.declared.schema.Keys.{Keys}
use Rattle.sqlite_schema.specs.declared.schema.Keys.TheVariants.{Enforced}
use Rattle.sqlite_rules.specs.Cast.{cast_row}
use Rattle.sqlite_rules.specs.Lists.{Has}
use Rattle.sqlite_rules.specs.Keys.{AreConflicts, conflicts}
use Rattle.sqlite_rules.specs.Edit.{id_in, edit_of, is_taken, next_rowid, with_rowid}
use Rattle.sqlite_rules.specs.Calls.{ids_of}
use Rattle.sqlite_rules.specs.declared.error.Refusal.{Refusal}
use Rattle.sqlite_rules.specs.declared.error.Rowids.TheVariants.{Given}
use Rattle.sqlite_rules.proofs.ListLemmas.{all_has, all_from, has_filtered, has_kept}
use Rattle.sqlite_rules.proofs.TableLemmas.{int_is}
use Rattle.sqlite_rules.proofs.PlaceLemmas.{tied_same}
use Rattle.sqlite_trees.specs.declared.memory.MemStore.{MemStore}
use Rattle.sqlite_trees.proofs.TreeLemmas.{IsShaped-filter}
use Rattle.sqlite_trees.specs.declared.store.Shape.TheVariants.{Table as Rowed}
use Rattle.sqlite.specs.Held.{Held, state}
use Rattle.sqlite.specs.Steps.{over_memory}
use Rattle.sqlite.specs.Effect.{Database, value_rows}
use Rattle.sqlite.specs.Does.{Tally, Does}
use Rattle.sqlite.specs.Table.{Table}
use Rattle.sqlite.specs.Rows.{Task, Written, Judged, Clears, Puts, Upserts, Meets, Edited, Tries, TriesEach, nothing, joined, higher, rowids_for, Then, Gives}
use Rattle.sqlite.specs.Rows.{count_of, stamped, shown}
use Rattle.sqlite.specs.Listing.{understood}
use Rattle.sqlite.specs.State.{mode_of, Executes}
use Rattle.sqlite.proofs.Callers.{IsPlain, command_of, statement_of, runs_as, one_step}
use Rattle.post_tables.specs.Schema.{site_schema, named_table}
use Rattle.post_tables.specs.Stored.{IsIdle, HoldsSite, AreNamed, name_in, text_rest, text_in}
use Rattle.table_rows.specs.Sorting.{in_order}
use Rattle.table_rows.proofs.Casting.{cast_int, cast_null}
use Rattle.table_rows.proofs.Steps.{went, same_value}
use Rattle.table_rows.proofs.Answering as reading
use Rattle.post_tables.proofs.Comparing.{equal_is, equal_tied, tied_text, equal_text}
use Rattle.post_tables.proofs.Memory.{wrote}
use Rattle.post_tables.proofs.NamedTable.{NamedTable}
use Rattle.post_tables.proofs.NamedRows.{put_in, IsSet}
use Rattle.post_tables.proofs.Replacing.{job, put}
use Rattle.post_tables.proofs.Parts.{Others}

-- ---- rows by their rowids

-- SQL's = of whole numbers
same_id : (a b : ℤ) → (is_true (binary (Compare Eq Binary) (Int a) (Int b)) && true) ≡ is_eq (value_cmp (Int a) (Int b))
unfolding binary
same_id a b = elim (is_eq (value_cmp (Int a) (Int b))) as (λ t. (is_true (from_truth (Some t)) && true) ≡ t) [ true ↦ refl | false ↦ refl ]

has_own : (r : Row) (id : ℤ) → rowid r ≡ Int id → has_rowid id r ≡ true
has_own r id is = ap (λ z. is_eq (value_cmp z (Int id))) is ∙ ap is_eq (tied_itself value_cmp_total (Int id))

-- two rows of a table with one rowid are one
one_row : (rows : List Row) (a b : Row) (id : ℤ) → IsTable rows → Has rows a → Has rows b → has_rowid id a ≡ true → rowid b ≡ Int id → a ≡ b
one_row rows a b id up h g is at = tied_same rows a b up h g (ap (value_cmp (rowid a)) at ∙ equal_is _ is)

none_pass : (p : Row → Bool) (rows : List Row) → ((r : Row) → Has rows r → p r ≡ false) → filter p rows ≡ []
none_pass p [] each = refl
none_pass p (r ∷ rows) each = rw (each r (inl refl)) (none_pass p rows (λ x h. each x (inr h)))

-- a test that one row alone passes
one_passes : (p : Row → Bool) (rows : List Row) (r : Row) → IsTable rows → Has rows r → p r ≡ true → ((x : Row) → Has rows x → p x ≡ true → x ≡ r)
    → filter p rows ≡ r ∷ []
one_passes p [] r up h is only = absurd h
one_passes p (x ∷ rows) r up h is only = elim (cases_Bool (p x)) [
  | inl here ↦
      let first : x ≡ r = only x (inl refl) here in
      let none : filter p rows ≡ [] = none_pass p rows (λ y k. false_from_ne_true _ (λ also.
      let less = all_has _ rows y up.0 k in
      let same : y ≡ x = only y (inr k) also ∙ sym first in
      let tie = ap (λ z. value_cmp (rowid x) (rowid z)) same ∙ tied_itself value_cmp_total (rowid x) in
      absurd cc)) in
      rw here (ap₂ ◌∷◌ first none)
  | inr other ↦ elim h [
    | inl same ↦ absurd (true≢false (sym is ∙ ap p same ∙ other))
    | inr more ↦ rw other (one_passes p rows r up.1 more is (λ y k. only y (inr k)))
  ]
]

-- ---- the query of the update: its parameters are those of the statement, then the rowid of the row that is there, and then the new row

abbrev wheres : List Term
wheres = op2 (Compare Eq Binary) (col 1 0) (col 0 2) ∷ []

abbrev projects : List Term
projects = col 1 0 ∷ col 1 0 ∷ col 1 1 ∷ col 0 5 ∷ []

abbrev query : ℕ → Query
query tree = reading.query tree wheres projects [] [] (lit (Int (negsuc 0))) (lit (Int (pos 0)))

abbrev pub clause : ℕ → Upsert
clause tree = record { target = Some (1 ∷ []); update = Some (record { lets = []; body = query tree }) }

abbrev given : ℤ → ℤ → List ℕ → List ℕ → Row
given id n name v = Text name ∷ Text v ∷ Int id ∷ Int n ∷ Text name ∷ Text v ∷ []

module _ (k : NamedTable text_rest text_in) where
  abbrev table : Table
  table = named_table k.title k.tree k.columns

  pub record UpsertText (text : List ℕ) : Type 0 where
    pub terms : List Term
    pub width : ℕ
    pub is : command_of (understood site_schema text) ≡ InsertOr k.place Abort (Values terms width) (clause k.tree ∷ [])
    pub plain : IsPlain (understood site_schema text)
    pub source : (name v : List ℕ) → value_rows (stamped table (Text name ∷ text_rest v)) width (length terms / width) terms
        ≡ (Null ∷ Text name ∷ text_rest v) ∷ []

  module _ (db : Trees) (ok : AreNamed text_rest text_in (db k.tree)) (name v : List ℕ) where
    -- no row has the name: the new one is put in
    fresh_set : (next : Trees) → ((r : Row) → Has (db k.tree) r → name_in r ≢ name)
        → next k.tree ≡ put_row (put_in k (db k.tree) name v) (db k.tree) → is_taken (db k.tree) (put_in k (db k.tree) name v) ≡ false
        → IsSet k (db k.tree) (next k.tree) name v
    fresh_set next none is free = record {
      id = next_rowid (db k.tree);
      kept = db k.tree;
      ordered = ok.ordered;
      left = λ x h. (h, none x h);
      stays = λ x h other. h;
      free = free;
      is = is;
    }

    -- a row has the name: it is updated in place
    module _ (r : Row) (there : Has (db k.tree) r) (named : name_in r ≡ name) (n : ℤ) where
      abbrev id : ℤ
      id = id_in (rowid r)

      rowid_is : rowid r ≡ Int id
      rowid_is = int_is (rowid r) (ok.each r there).0

      row_is : r ≡ Int id ∷ Text name ∷ text_rest (text_in r)
      row_is = (ok.each r there).1 ∙ ap (λ z. z ∷ Text (name_in r) ∷ text_rest (text_in r)) rowid_is
          ∙ ap (λ s. Int id ∷ Text s ∷ text_rest (text_in r)) named

      abbrev passes : Row → Bool
      passes = reading.passes k.tree wheres projects [] [] (lit (Int (negsuc 0))) (lit (Int (pos 0))) (λ _. []) (given id n name v)

      abbrev shows : Row → Output
      shows x = output (query k.tree) (given id n name v ∷ x ∷ [])

      tests : (x : Row) → Has (db k.tree) x → passes x ≡ has_rowid id x
      tests x h = let is : rowid x ≡ Int (id_in (rowid x)) = int_is (rowid x) (ok.each x h).0 in
          ap (λ z. is_true (binary (Compare Eq Binary) z (Int id)) && true) is ∙ same_id (id_in (rowid x)) id
          ∙ ap (λ z. is_eq (value_cmp z (Int id))) (sym is)

      passed : filter passes (db k.tree) ≡ r ∷ []
      passed = one_passes passes (db k.tree) r ok.ordered there (tests r there ∙ has_own r id rowid_is)
          (λ x h is. one_row (db k.tree) x r id ok.ordered h there (sym (tests x h) ∙ is) rowid_is)

      apart_one : (o : Output) → IsDistinct (eq_by_cmp (output_cmp (query k.tree))) (o ∷ [])
      unfolding IsDistinct
      apart_one o = (tt, tt)

      one_shown : (rows : List Row) → IsAnswer (query k.tree) (overlay db []) (given id n name v) rows
          → rows ≡ (Int id ∷ Int id ∷ Text name ∷ text_rest v) ∷ []
      one_shown rows a =
          let outs : map shows (filter passes (overlay db [] k.tree)) ≡ shows r ∷ [] = ap (λ l. map shows (filter passes l)) (k.over db)
          ∙ ap (map shows) passed in
          let all = reading.answer_is k.tree wheres projects [] [] (lit (Int (negsuc 0))) (lit (Int (pos 0))) (overlay db []) (given id n name v) rows a
          (subst (IsDistinct (eq_by_cmp (output_cmp (query k.tree)))) (sym outs) (apart_one (shows r))) in
          all ∙ ap (λ l. map (λ (o : Output). o.1) (in_order (output_cmp (query k.tree)) l)) outs ∙ ap (λ x. (shows x).1 ∷ []) row_is

      abbrev left : List Row
      left = without_rowid id (db k.tree)

      updated_set : (keys : Keys) (next : Trees) (rows : List Row) → IsAnswer (query k.tree) (overlay db []) (given id n name v) rows
          → Edited site_schema keys db (edit_of db table (ids_of rows) Given 1 rows) (Ok next)
          → IsSet k (db k.tree) (next k.tree) name v × Others k.tree db next
      updated_set keys next rows a h =
          let row : Row = Int id ∷ Int id ∷ Text name ∷ text_rest v in
          let edit = subst (λ l. Edited site_schema keys db (edit_of db table (ids_of l) Given 1 l) (Ok next)) (one_shown rows a) h in
          let done = one_step site_schema keys db next (edit_of db table (id ∷ []) Given 1 (row ∷ [])) refl edit in
          let fresh = rw (cast_int id) at done.fresh in (
            record {
              id = id;
              kept = left;
              ordered = (IsShaped-filter Rowed (λ x. not (has_rowid id x)) (db k.tree) (ok.ordered, all_from _ (db k.tree) (λ x h. (ok.each x h).0))).0;
              left = λ x h.
                  let was = has_filtered (λ y. not (has_rowid id y)) (db k.tree) x h in
                  let other : has_rowid id x ≡ false = not-true _ was.1 in
                  (was.0, λ same. true≢false (sym (has_own r id rowid_is) ∙ ap (has_rowid id) (ok.distinct r x there was.0 (named ∙ sym same)) ∙ other));
              stays = λ x h other. has_kept (λ y. not (has_rowid id y)) (db k.tree) x h
                  (ap not (false_from_ne_true _ (λ is. other (ap name_in (one_row (db k.tree) x r id ok.ordered h there is rowid_is) ∙ named))));
              free = not-true _ (and_parts _ _ fresh).0;
              is = done.rows ∙ rw (cast_int id, k.cast_is) refl;
            },
            done.tables,
          )

  -- ---- the statement

  module _ (limit : Option ℕ) (keys : Keys) (db : Trees) (ok : AreNamed text_rest text_in (db k.tree))
      (name v : List ℕ) (one : Written) where
    abbrev new : Row
    new = put_in k (db k.tree) name v

    abbrev task : Task
    task = job k limit keys (Text name ∷ text_rest v)

    abbrev IsDone : Type 0
    IsDone = IsSet k (db k.tree) (one.trees k.tree) name v × Others k.tree db one.trees

    -- the target is met by the row with the name alone
    meets : (r : Row) → conflicts (Some (1 ∷ [])) site_schema.indexes table new r ≡ true → column r 1 ≡ Text (name_in r) → name_in r ≡ name
    meets r is at = elim (cases_Bool (equal Binary (column r 1) (Text name))) [
      | inl same ↦ tied_text (name_in r) name (rw at at (equal_tied _ _ same))
      | inr other ↦ absurd (true≢false (sym is ∙ k.target_is r (next_rowid (db k.tree)) name v ∙ rw other refl))
    ]

    met_by : (r : Row) → Has (db k.tree) r → name_in r ≡ name → conflicts (Some (1 ∷ [])) site_schema.indexes table new r ≡ true
    met_by r h is =
        let at : column r 1 ≡ Text name = ap (λ y. column y 1) (ok.each r h).1 ∙ ap Text is in
        k.target_is r (next_rowid (db k.tree)) name v ∙ rw (at, equal_text name) refl

    puts : (found : List Row) → Clears task Abort new db found (Ok one) → Puts task new db (Ok one)
    puts [] h = h
    puts (y ∷ more) h = h

    met : (found : List Row) → AreConflicts (Some (1 ∷ [])) site_schema.indexes table (db k.tree) new found
        → Meets task (Upserts task Abort new db []) new db (clause k.tree) found (Ok one) → IsDone
    met [] are h =
        let done = put k limit keys (Text name ∷ text_rest v) db (next_rowid (db k.tree)) name v one (puts h.0 h.2) in
        (fresh_set db ok name v one.trees (λ r h same. are.complete r h (met_by r h same)) done.0 done.1, done.2)
    met (y ∷ more) are h =
        let it = are.sound y (inl refl) in
        let r = it.0 in
        let named = meets r it.2 (ap (λ z. column z 1) (ok.each r it.1).1) in
        let asked = went h in
        let edit = went asked.2 in
        let same : one.trees ≡ edit.0 = ap (λ (w : Written). w.trees) (same_value edit.2) in
        let n : ℤ = next_rowid (db k.tree) in
        let params : (Text name ∷ text_rest v) ++ rowid y ∷ shown table new ≡ given (id_in (rowid r)) n name v =
        ap₂ (λ a b. (Text name ∷ text_rest v) ++ a ∷ b) (ap rowid it.3 ∙ int_is (rowid r) (ok.each r it.1).0) (k.shown_is n name v) in
        let answer = subst (λ p. IsAnswer (query k.tree) (overlay db []) p asked.0) params (asked.1.answer Null) in
        let done = updated_set db ok name v r it.1 named n keys edit.0 asked.0 answer edit.1 in
        subst (λ t. IsSet k (db k.tree) (t k.tree) name v × Others k.tree db t) (sym same) done

    judged : (verdict : Option Refusal) → Judged task Abort (clause k.tree ∷ []) new db verdict (Ok one) → IsDone
    judged None h = met h.0 h.1 h.2
    judged (Some why) h = absurd (let e = h in cc)

    tried : Tries task Abort (clause k.tree ∷ []) new db (Ok one) → IsDone
    tried (inl unfit) = absurd (let e = unfit.1 in cc)
    tried (inr go) = judged go.0 go.2

  -- the row of the statement is cast, and takes the next rowid
  new_row : (top : ℤ) (rows : List Row) (name v : List ℕ)
      → with_rowid (rowids_for table top) rows (cast_row table (Null ∷ Text name ∷ text_rest v)) ≡ put_in k rows name v
  new_row top rows name v = rw (cast_null, k.cast_is name v) refl

  pub record HasUpserted (old new : Held MemStore) (name v : List ℕ) : Type 0 where
    pub schema_is : (state over_memory new).now.schema ≡ site_schema
    pub made : IsSet k ((state over_memory old).now.trees k.tree) ((state over_memory new).now.trees k.tree) name v
    pub others : Others k.tree (state over_memory old).now.trees (state over_memory new).now.trees
    pub idle : IsIdle old → IsIdle new

  pub upserted : (sql : List ℕ) (x : UpsertText sql) (old new : Held MemStore) (name v : List ℕ) (count : ℕ) → HoldsSite (state over_memory old).now
      → AreNamed text_rest text_in ((state over_memory old).now.trees k.tree)
      → Executes sql (Text name ∷ text_rest v) (state over_memory old) (state over_memory new) (Ok count) → HasUpserted old new name v
  upserted sql x old new name v count holds named h =
      let s = state over_memory old in
      let t = state over_memory new in
      let text = statement_of sql (understood site_schema sql) in
      let params : Row = Text name ∷ text_rest v in
      let clauses : List Upsert = clause k.tree ∷ [] in
      let command : Command = InsertOr k.place Abort (Values x.terms x.width) clauses in
      let w = runs_as sql params s t site_schema holds.schema_is command x.is x.plain count h in
      let task = job k s.step_limit Enforced params in
      let db = s.now.trees in
      let does = subst (λ y. Does s.step_limit (mode_of s) params (record s.now { schema = y }) text None command (Ok (w.tally, t.now))) holds.schema_is
      w.changed in
      let done = went (rw k.here at does) in
      let now = ap (λ (p : Tally × Database). p.1) (same_value (went (went done.2).2).2) in
      let given = went done.1 in
      let counted = went given.2 in
      let top = count_of counted.0 in
      let all = went counted.2 in
      let each : TriesEach task Abort clauses ((Null ∷ Text name ∷ text_rest v) ∷ []) top (nothing db) (Ok all.0) = subst
      (λ rows. TriesEach task Abort clauses rows top (nothing db) (Ok all.0)) (given.1.1 ∙ x.source name v) all.1 in
      let one = went (subst (λ new. Then (Tries task Abort clauses new db) (λ it. Gives (joined (nothing db) it, higher top new)) (Ok all.0))
      (new_row top (db k.tree) name v) each) in
      let counts = went all.2 in
      let trees : done.0.trees ≡ one.0.trees =
      ap (λ (it : Written). it.trees) (same_value counts.2) ∙ same_value counts.1 ∙ ap (λ (p : Written × ℤ). p.0.trees) (same_value one.2) in
      let both = tried s.step_limit Enforced db named name v one.0 one.1 in
      let after : t.now.trees ≡ one.0.trees = ap (λ (d : Database). d.trees) now ∙ trees in
      record {
        schema_is = ap (λ (d : Database). d.schema) now;
        made = subst (λ (y : Trees). IsSet k (db k.tree) (y k.tree) name v) (sym after) both.0;
        others = subst (Others k.tree db) (sym after) both.1;
        idle = λ idle. wrote old new idle _ _ _ _ _ w;
      }
