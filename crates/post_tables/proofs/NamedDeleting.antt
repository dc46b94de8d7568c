-- What DELETE of a name leaves of a table of names.
use Rattle.std.proofs.Common.{◌≡◌, ℕ, List, [], ◌∷◌, filter, Bool, true, not, None, Ok, refl, sym, ap, subst, ◌∙◌}
use Rattle.std.specs.Ordering.{eq_by_cmp}
use Rattle.std.specs.Cmp.{eq_by_cmp_equiv}
use Rattle.std.specs.Cmp.Lexicographic.{nat_list_cmp_total}
use Rattle.sqlite.specs.Order.{Row}
use Rattle.sqlite_value.specs.declared.value.Value.TheVariants.{Null, Text}
use Rattle.sqlite_value.specs.declared.keys.Collation.TheVariants.{Binary}
use Rattle.sqlite_sql.specs.declared.ops.BinaryOp.TheVariants.{Compare}
use Rattle.sqlite_sql.specs.declared.ops.CompareOp.TheVariants.{Eq}
use Rattle.sqlite_sql.specs.Term.{op2}
use Rattle.sqlite.specs.Term.{Term, col}
use Rattle.sqlite.specs.Program.{overlay}
use Rattle.sqlite.specs.Tree.{Trees, rowid, IsTable}
use Rattle.sqlite_schema.specs.declared.command.Command.{Command}
use Rattle.sqlite_schema.specs.declared.command.Command.TheVariants.{Delete}
use Rattle.sqlite_schema.specs.declared.schema.Keys.TheVariants.{Enforced}
use Rattle.sqlite_trees.specs.View.{is_int}
use Rattle.sqlite_rules.specs.Lists.{Has}
use Rattle.sqlite_rules.specs.Edit.{edit_of, without_all}
use Rattle.sqlite_rules.specs.Calls.{ids_of}
use Rattle.sqlite_rules.specs.declared.error.Rowids.TheVariants.{Given}
use Rattle.sqlite_trees.specs.declared.memory.MemStore.{MemStore}
use Rattle.sqlite.specs.Rows.{Written}
use Rattle.sqlite.specs.Held.{Held, state}
use Rattle.sqlite.specs.Steps.{over_memory}
use Rattle.sqlite.specs.Effect.{Database}
use Rattle.sqlite.specs.Does.{Tally, Does}
use Rattle.sqlite.specs.Listing.{understood}
use Rattle.sqlite.specs.State.{mode_of, Executes}
use Rattle.sqlite.proofs.Callers.{IsPlain, command_of, statement_of, runs_as, one_step}
use Rattle.post_tables.specs.Schema.{site_schema, named_table}
use Rattle.post_tables.specs.Rows.{by_bytes}
use Rattle.post_tables.specs.Stored.{HoldsSite, IsIdle, AreNamed, name_in}
use Rattle.post_tables.proofs.Comparing.{text_compares, and_true}
use Rattle.table_rows.proofs.Steps.{went, same_value}
use Rattle.post_tables.proofs.Memory.{wrote}
use Rattle.post_tables.proofs.NamedTable.{NamedTable}
use Rattle.post_tables.proofs.Parts.{Others}
use Rattle.table_rows.proofs.Deleting as deleting

abbrev pub wheres : List Term
wheres = op2 (Compare Eq Binary) (col 1 1) (col 0 0) ∷ []

module _ {V : Type 0} {rest : V → Row} {value_in : Row → V} (k : NamedTable rest value_in) where
  pub record DeleteText (text : List ℕ) : Type 0 where
    pub is : command_of (understood site_schema text) ≡ Delete k.place (record { lets = []; body = deleting.query k.tree wheres })
    pub plain : IsPlain (understood site_schema text)

  abbrev passes : Trees → List ℕ → Row → Bool
  passes db name = deleting.passes k.tree wheres db (Text name ∷ [])

  pub record HasDeleted (old new : Held MemStore) (name : List ℕ) : Type 0 where
    pub schema_is : (state over_memory new).now.schema ≡ site_schema
    pub test : Row → Bool
    pub tests : (r : Row) → Has ((state over_memory old).now.trees k.tree) r → test r ≡ eq_by_cmp by_bytes name (name_in r)
    pub is : (state over_memory new).now.trees k.tree ≡ filter (λ r. not (test r)) ((state over_memory old).now.trees k.tree)
    pub others : Others k.tree (state over_memory old).now.trees (state over_memory new).now.trees
    pub idle : IsIdle old → IsIdle new

  pub deleted : (sql : List ℕ) (x : DeleteText sql) (old new : Held MemStore) (name : List ℕ) (count : ℕ) → HoldsSite (state over_memory old).now
      → AreNamed rest value_in ((state over_memory old).now.trees k.tree)
      → Executes sql (Text name ∷ []) (state over_memory old) (state over_memory new) (Ok count) → HasDeleted old new name
  deleted sql x old new name count holds named h =
      let s = state over_memory old in
      let t = state over_memory new in
      let text = statement_of sql (understood site_schema sql) in
      let given : Row = Text name ∷ [] in
      let command : Command = Delete k.place (record { lets = []; body = deleting.query k.tree wheres }) in
      let w = runs_as sql given s t site_schema holds.schema_is command x.is x.plain count h in
      let does = subst (λ y. Does s.step_limit (mode_of s) given (record s.now { schema = y }) text None command (Ok (w.tally, t.now))) holds.schema_is
      w.changed in
      let done = went (rw k.here at does) in
      let now = ap (λ (p : Tally × Database). p.1) (same_value (went (went done.2).2).2) in
      let asked = went done.1 in
      let edit = went asked.2 in
      let db = s.now.trees in
      let applied = one_step site_schema Enforced db edit.0 (edit_of db (named_table k.title k.tree k.columns) (ids_of asked.0) Given 0 []) refl edit.1 in
      let trees : t.now.trees ≡ edit.0 = ap (λ (d : Database). d.trees) now ∙ ap (λ (y : Written). y.trees) (same_value edit.2) in
      let over : overlay db [] k.tree ≡ db k.tree = k.over db in
      let keyed : (r : Row) → Has (overlay db [] k.tree) r → is_int (rowid r) ≡ true = λ r there. (named.each r (subst (λ l. Has l r) over there)).0 in
      let left = deleting.deleted k.tree wheres (overlay db []) given (subst IsTable (sym over) named.ordered) keyed asked.0 (asked.1.answer Null) in
      record {
        schema_is = ap (λ (d : Database). d.schema) now;
        test = passes (overlay db []) name;
        tests = λ r there. ap (passes (overlay db []) name) (named.each r there).1 ∙ and_true _ ∙ text_compares Eq (name_in r) name
            ∙ (eq_by_cmp_equiv nat_list_cmp_total).symm (name_in r) name;
        is = ap (λ (y : Trees). y k.tree) trees ∙ applied.rows ∙ ap (λ l. without_all l (ids_of asked.0)) (sym over) ∙ left
            ∙ ap (filter (λ r. not (passes (overlay db []) name r))) over;
        others = subst (Others k.tree db) (sym trees) applied.tables;
        idle = λ idle. wrote old new idle _ _ _ _ _ w;
      }
