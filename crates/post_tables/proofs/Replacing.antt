-- What INSERT OR REPLACE makes of a table of names.
use Rattle.std.proofs.Common.{◌≡◌, ◌/◌, inl, inr, ℕ, ℤ, List, [], ◌∷◌, length, false, Option, Some, None, Ok, refl, sym, ap, subst, ◌∙◌}
use Rattle.sqlite.specs.Order.{Row}
use Rattle.sqlite_value.specs.declared.value.Value.TheVariants.{Null, Int, Text}
use Rattle.sqlite_trees.specs.declared.memory.MemStore.{MemStore}
use Rattle.sqlite.specs.Term.{Term}
use Rattle.sqlite.specs.Source.TheVariants.{Values}
use Rattle.sqlite_schema.specs.declared.command.Command.{Command}
use Rattle.sqlite_schema.specs.declared.command.Command.TheVariants.{InsertOr}
use Rattle.sqlite_schema.specs.declared.command.Conflict.TheVariants.{Replace}
use Rattle.sqlite_rules.specs.Cast.{cast_row}
use Rattle.sqlite_rules.specs.Edit.{with_rowid}
use Rattle.sqlite.specs.Edit.{edit_of, without_all, is_taken, next_rowid}
use Rattle.sqlite.specs.Tree.{Trees, put_row}
use Rattle.sqlite.specs.Held.{Held, state}
use Rattle.sqlite.specs.Steps.{over_memory}
use Rattle.sqlite.specs.Effect.{Database, value_rows}
use Rattle.sqlite.specs.Does.{Tally, Does}
use Rattle.sqlite.specs.Rows.{Task, Written, Judged, Clears, Puts, Upserts, Tries, TriesEach, nothing, joined, higher, mended, rowids_for, Then, Gives}
use Rattle.sqlite.specs.Rows.{count_of, stamped}
use Rattle.sqlite.specs.Listing.{understood}
use Rattle.sqlite.specs.State.{mode_of, Executes}
use Rattle.sqlite_rules.specs.Calls.{ids_of}
use Rattle.sqlite_rules.specs.declared.error.Refusal.{Refusal}
use Rattle.sqlite_rules.specs.declared.error.Rowids.TheVariants.{Given}
use Rattle.sqlite.proofs.Callers.{IsPlain, command_of, statement_of, runs_as, one_step}
use Rattle.sqlite_schema.specs.declared.schema.Keys.{Keys}
use Rattle.sqlite_schema.specs.declared.schema.Keys.TheVariants.{Enforced}
use Rattle.sqlite.specs.Table.{Table}
use Rattle.std.proofs.lemmas.Bool.{and_parts, not-true}
use Rattle.post_tables.specs.Schema.{site_schema, named_table}
use Rattle.post_tables.specs.Stored.{IsIdle, HoldsSite}
use Rattle.table_rows.proofs.Casting.{cast_int, cast_null}
use Rattle.table_rows.proofs.Steps.{went, same_value}
use Rattle.post_tables.proofs.Memory.{wrote}
use Rattle.post_tables.proofs.NamedTable.{NamedTable}
use Rattle.post_tables.proofs.NamedRows.{put_in, IsReplaced}
use Rattle.post_tables.proofs.Parts.{Others, others_on, others_none}

module _ {V : Type 0} {rest : V → Row} {value_in : Row → V} (k : NamedTable rest value_in) where
  abbrev table : Table
  table = named_table k.title k.tree k.columns

  module _ (limit : Option ℕ) (keys : Keys) (params : Row) where
    abbrev pub job : Task
    job = record { limit = limit; keys = keys; schema = site_schema; table = table; params = params }

    judged : (new : Row) (db : Trees) (one : Written) (verdict : Option Refusal) → Judged job Replace [] new db verdict (Ok one)
        → Upserts job Replace new db [] (Ok one)
    judged new db one None h = h
    judged new db one (Some why) h = absurd (let e = h in cc)

    -- the rows that the new one meets are taken out
    cleared : (new : Row) (db : Trees) (one : Written) (found : List Row) → Clears job Replace new db found (Ok one)
        → (mid : Trees) × (mid k.tree ≡ without_all (db k.tree) (ids_of found)) × Others k.tree db mid × Puts job new mid (Ok one)
    cleared new db one [] h = (db, refl, others_none k.tree db, h)
    cleared new db one (x ∷ more) h =
        let it = went h in
        let done = one_step site_schema keys db it.0 (edit_of db table (ids_of (x ∷ more)) Given 0 []) refl it.1 in
        (it.0, done.rows, done.tables, it.2)

    -- and the new one is put in
    pub put : (db : Trees) (n : ℤ) (name : List ℕ) (v : V) (one : Written) → Puts job (Int n ∷ Text name ∷ rest v) db (Ok one)
        → (one.trees k.tree ≡ put_row (Int n ∷ Text name ∷ rest v) (db k.tree)) × (is_taken (db k.tree) (Int n ∷ Text name ∷ rest v) ≡ false)
        × Others k.tree db one.trees
    put db n name v one h =
        let it = went h in
        let edit = edit_of db table [] Given 0 ((Int n ∷ Text name ∷ rest v) ∷ []) in
        let done = one_step site_schema keys db it.0 edit refl it.1 in
        let same : one.trees ≡ it.0 = ap (λ (w : Written). w.trees) (same_value it.2) in
        let fresh = rw (cast_int n) at done.fresh in (
          ap (λ (t : Trees). t k.tree) same ∙ done.rows ∙ rw (cast_int n, k.cast_is) refl,
          not-true _ (and_parts _ _ fresh).0,
          subst (Others k.tree db) (sym same) done.tables,
        )

    tried : (db : Trees) (name : List ℕ) (v : V) (one : Written) → Tries job Replace [] (put_in k (db k.tree) name v) db (Ok one)
        → IsReplaced k (db k.tree) (one.trees k.tree) name v × Others k.tree db one.trees
    tried db name v one (inl unfit) = absurd (let e = unfit.1 in cc)
    tried db name v one (inr go) =
        let met = judged (put_in k (db k.tree) name v) db one go.0 go.2 in
        let left = cleared (put_in k (db k.tree) name v) db one met.0 met.2 in
        let done = put left.0 (next_rowid (db k.tree)) name v one left.3 in (
          record {
            found = met.0;
            conflicts_are = met.1;
            free = subst (λ rows. is_taken rows (put_in k (db k.tree) name v) ≡ false) left.1 done.1;
            is = done.0 ∙ ap (put_row (put_in k (db k.tree) name v)) left.1;
          },
          others_on k.tree db left.0 one.trees left.2 done.2,
        )

  -- the row of the statement is cast, and takes the next rowid
  new_row : (top : ℤ) (rows : List Row) (name : List ℕ) (v : V)
      → with_rowid (rowids_for table top) rows (cast_row table (mended Replace table (Null ∷ Text name ∷ rest v))) ≡ put_in k rows name v
  new_row top rows name v = rw (k.mend_is name v, cast_null, k.cast_is name v) refl

  -- ---- the statement

  pub record ReplaceText (text : List ℕ) : Type 0 where
    pub terms : List Term
    pub width : ℕ
    pub is : command_of (understood site_schema text) ≡ InsertOr k.place Replace (Values terms width) []
    pub plain : IsPlain (understood site_schema text)
    pub source : (name : List ℕ) (v : V) → value_rows (stamped table (Text name ∷ rest v)) width (length terms / width) terms ≡ (Null ∷ Text name ∷ rest v) ∷ []

  pub record HasReplaced (old new : Held MemStore) (name : List ℕ) (v : V) : Type 0 where
    pub schema_is : (state over_memory new).now.schema ≡ site_schema
    pub made : IsReplaced k ((state over_memory old).now.trees k.tree) ((state over_memory new).now.trees k.tree) name v
    pub others : Others k.tree (state over_memory old).now.trees (state over_memory new).now.trees
    pub idle : IsIdle old → IsIdle new

  pub replaced : (sql : List ℕ) (x : ReplaceText sql) (old new : Held MemStore) (name : List ℕ) (v : V) (count : ℕ) → HoldsSite (state over_memory old).now
      → Executes sql (Text name ∷ rest v) (state over_memory old) (state over_memory new) (Ok count) → HasReplaced old new name v
  replaced sql x old new name v count holds h =
      let s = state over_memory old in
      let t = state over_memory new in
      let text = statement_of sql (understood site_schema sql) in
      let params : Row = Text name ∷ rest v in
      let command : Command = InsertOr k.place Replace (Values x.terms x.width) [] in
      let w = runs_as sql params s t site_schema holds.schema_is command x.is x.plain count h in
      let task = job s.step_limit Enforced params in
      let db = s.now.trees in
      let does = subst (λ y. Does s.step_limit (mode_of s) params (record s.now { schema = y }) text None command (Ok (w.tally, t.now))) holds.schema_is
      w.changed in
      let done = went (rw k.here at does) in
      let now = ap (λ (p : Tally × Database). p.1) (same_value (went (went done.2).2).2) in
      let given = went done.1 in
      let counted = went given.2 in
      let top = count_of counted.0 in
      let all = went counted.2 in
      let each : TriesEach task Replace [] ((Null ∷ Text name ∷ rest v) ∷ []) top (nothing db) (Ok all.0) = subst
      (λ rows. TriesEach task Replace [] rows top (nothing db) (Ok all.0)) (given.1.1 ∙ x.source name v) all.1 in
      let one = went (subst (λ new. Then (Tries task Replace [] new db) (λ it. Gives (joined (nothing db) it, higher top new)) (Ok all.0))
      (new_row top (db k.tree) name v) each) in
      let counts = went all.2 in
      let trees : done.0.trees ≡ one.0.trees =
      ap (λ (it : Written). it.trees) (same_value counts.2) ∙ same_value counts.1 ∙ ap (λ (p : Written × ℤ). p.0.trees) (same_value one.2) in
      let both = tried s.step_limit Enforced params db name v one.0 one.1 in
      let after : t.now.trees ≡ one.0.trees = ap (λ (d : Database). d.trees) now ∙ trees in
      record {
        schema_is = ap (λ (d : Database). d.schema) now;
        made = subst (λ (y : Trees). IsReplaced k (db k.tree) (y k.tree) name v) (sym after) both.0;
        others = subst (Others k.tree db) (sym after) both.1;
        idle = λ idle. wrote old new idle _ _ _ _ _ w;
      }
