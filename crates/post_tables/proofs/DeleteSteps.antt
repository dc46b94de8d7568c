-- What deleting a post makes of the site.
use Rattle.std.proofs.Common.{◌≡◌, ℕ, pos, List, [], ◌∷◌, map, filter, Bool, true, not, ◌==◌, codes, None, Ok, Err, Result, IfOk, refl, sym, ap, subst, ◌∙◌, arith}
use Rattle.std.proofs.Common.{length, nat_eq, unwrap_or}
use Rattle.std.proofs.lemmas.List.{length-map}
use Rattle.sqlite.specs.Order.{Row}
use Rattle.sqlite_value.specs.declared.value.Value.TheVariants.{Null, Int}
use Rattle.sqlite_value.specs.declared.keys.Collation.TheVariants.{Binary}
use Rattle.sqlite_sql.specs.declared.ops.BinaryOp.TheVariants.{Compare}
use Rattle.sqlite_sql.specs.declared.ops.CompareOp.TheVariants.{Eq}
use Rattle.sqlite_sql.specs.Term.{op2}
use Rattle.sqlite.specs.Term.{Term, col}
use Rattle.sqlite.specs.Program.{overlay}
use Rattle.sqlite.specs.Tree.{Trees, rowid}
use Rattle.sqlite_schema.specs.declared.command.Command.{Command}
use Rattle.sqlite_schema.specs.declared.command.Command.TheVariants.{Delete}
use Rattle.sqlite_schema.specs.declared.schema.Keys.TheVariants.{Enforced}
use Rattle.sqlite_trees.specs.View.{is_int}
use Rattle.sqlite_rules.specs.Lists.{Has}
use Rattle.sqlite_rules.specs.Edit.{edit_of}
use Rattle.sqlite_rules.specs.Calls.{ids_of}
use Rattle.sqlite_rules.specs.declared.error.Rowids.TheVariants.{Given}
use Rattle.sqlite_trees.specs.declared.memory.MemStore.{MemStore}
use Rattle.sqlite_tied.specs.Compute.{everything}
use Rattle.sqlite.specs.Rows.{Written}
use Rattle.sqlite.specs.declared.error.Error.{Error}
use Rattle.sqlite.specs.Held.{Held, state}
use Rattle.sqlite.specs.Steps.{over_memory}
use Rattle.sqlite.specs.Effect.{Database}
use Rattle.sqlite.specs.Does.{Tally, Does}
use Rattle.sqlite.specs.Listing.{understood}
use Rattle.sqlite.specs.State.{mode_of, Executes}
use Rattle.sqlite.proofs.Callers.{IsPlain, command_of, statement_of, runs_as, one_step}
use Rattle.post_tables.specs.Schema.{site_schema, post_table}
use Rattle.post_tables.specs.Rows.{without_post, has_post}
use Rattle.post_tables.specs.Stored.{HoldsSite, ArePosts, IsCounter, post_in, top_in, rows_of, trees_of}
use Rattle.post_tables.proofs.Comparing.{number_compares}
use Rattle.table_rows.proofs.Steps.{went, same_value}
use Rattle.post_tables.proofs.Memory.{wrote}
use Rattle.post_tables.proofs.GivenIds.{some_given}
use Rattle.post_tables.proofs.Parts.{posts_now}
use Rattle.post_tables.proofs.PostRows.{mapped_filter, some_posts}
use Rattle.post_tables.proofs.Statements.{IsDone}
use Rattle.post_tables.proofs.Finding.{row_is_found}
use Rattle.table_rows.proofs.Deleting as deleting

abbrev pub delete_text : List ℕ
delete_text = codes "DELETE FROM post WHERE id = ?1"

abbrev wheres : List Term
wheres = op2 (Compare Eq Binary) (col 1 0) (col 0 0) ∷ []

abbrev delete_command : Command
delete_command = Delete 0 (record { lets = []; body = deleting.query 0 wheres })

delete_is : command_of (understood site_schema delete_text) ≡ delete_command
unfolding understood everything
delete_is = refl

delete_plain : IsPlain (understood site_schema delete_text)
unfolding understood everything
delete_plain = (refl, refl)

pub deletes_post : (old new : Held MemStore) (holds : HoldsSite (state over_memory old).now) (id count : ℕ)
    → Executes delete_text (Int (pos id) ∷ []) (state over_memory old) (state over_memory new) (Ok count)
    → IsDone (λ s. record s { posts = without_post id s.posts }) old new
deletes_post old new holds id count h =
    let s = state over_memory old in
    let t = state over_memory new in
    let text = statement_of delete_text (understood site_schema delete_text) in
    let given : Row = Int (pos id) ∷ [] in
    let w = runs_as delete_text given s t site_schema holds.schema_is delete_command delete_is delete_plain count h in
    let done = went (subst (λ x. Does s.step_limit (mode_of s) given (record s.now { schema = x }) text None delete_command (Ok (w.tally, t.now)))
    holds.schema_is w.changed) in
    let now = ap (λ (x : Tally × Database). x.1) (same_value (went (went done.2).2).2) in
    let asked = went done.1 in
    let edit = went asked.2 in
    let db = s.now.trees in
    let ok = holds.sound.posts in
    let applied = one_step site_schema Enforced db edit.0 (edit_of db post_table (ids_of asked.0) Given 0 []) refl edit.1 in
    let trees : t.now.trees ≡ edit.0 = ap (λ (d : Database). d.trees) now ∙ ap (λ (x : Written). x.trees) (same_value edit.2) in
    let keyed : (r : Row) → Has (db 0) r → is_int (rowid r) ≡ true = λ r there. ap (λ x. is_int (rowid x)) (ok.each r there) in
    let passes : Row → Bool = deleting.passes 0 wheres (overlay db []) given in
    let left = deleting.deleted 0 wheres (overlay db []) given ok.ordered keyed asked.0 (asked.1.answer Null) in
    let posts : t.now.trees 0 ≡ filter (λ r. not (passes r)) (db 0) = ap (λ (x : Trees). x 0) trees ∙ applied.rows ∙ left in
    let top : t.now.trees 1 ≡ db 1 = ap (λ (x : Trees). x 1) trees ∙ applied.tables.1.0 (λ e. omega arith) in
    let tested : (r : Row) → Has (db 0) r → passes r ≡ ((post_in r).id == id) = λ r there. ap passes (ok.each r there) ∙ number_compares (post_in r).id id in
    let it = posts_now old.step_limit db t.now.trees holds.sound (
      ap (λ (x : Trees). x 2) trees ∙ applied.tables.1.1.0 (λ e. omega arith),
      ap (λ (x : Trees). x 4) trees
          ∙ applied.tables.1.1.1.0 (λ e. omega arith),
      ap (λ (x : Trees). x 6) trees ∙ applied.tables.1.1.1.1.0 (λ e. omega arith),
    )
    (subst ArePosts (sym posts) (some_posts _ (db 0) ok)) (subst IsCounter (sym top) holds.sound.counter) _
    (ap (map post_in) posts ∙ mapped_filter id passes (db 0) tested) _ holds.sound.bounded (ap top_in top)
    (some_given (λ q. not (q.id == id)) (map post_in (db 0)) (top_in (db 1)) holds.sound.given) in
    record {
      holds = record { schema_is = ap (λ (d : Database). d.schema) now; sound = it.sound };
      rows = it.are;
      idle = λ idle. wrote old new idle _ _ _ _ _ w;
    }

-- it has deleted a row if there was such a post
deleted_any : (old new : Held MemStore) (holds : HoldsSite (state over_memory old).now) (id count : ℕ)
    → Executes delete_text (Int (pos id) ∷ []) (state over_memory old) (state over_memory new) (Ok count)
    → not (nat_eq count 0) ≡ has_post id (rows_of old).posts
deleted_any old new holds id count h =
    let s = state over_memory old in
    let t = state over_memory new in
    let text = statement_of delete_text (understood site_schema delete_text) in
    let given : Row = Int (pos id) ∷ [] in
    let w = runs_as delete_text given s t site_schema holds.schema_is delete_command delete_is delete_plain count h in
    let done = went (subst (λ x. Does s.step_limit (mode_of s) given (record s.now { schema = x }) text None delete_command (Ok (w.tally, t.now)))
    holds.schema_is w.changed) in
    let tally = ap (λ (x : Tally × Database). unwrap_or x.0.rows 0) (same_value (went (went done.2).2).2) in
    let asked = went done.1 in
    let edit = went asked.2 in
    let ids = ids_of asked.0 in
    let taken : length done.0.rows ≡ length asked.0 = ap (λ (x : Written). length x.rows) (same_value edit.2) ∙ length-map ids _ ∙ length-map asked.0 _ in
    let is : count ≡ length asked.0 = w.counted ∙ tally ∙ taken in
    ap (λ n. not (nat_eq n 0)) is ∙ row_is_found (col 1 0 ∷ []) id (trees_of old) holds.sound.posts asked.0 (asked.1.answer Null)

pub deleted_count : (old new : Held MemStore) (holds : HoldsSite (state over_memory old).now) (id : ℕ) (r : Result ℕ Error)
    → Executes delete_text (Int (pos id) ∷ []) (state over_memory old) (state over_memory new) r
    → IfOk r (λ count. not (nat_eq count 0) ≡ has_post id (rows_of old).posts)
deleted_count old new holds id (Ok count) h = deleted_any old new holds id count h
deleted_count old new holds id (Err e) h = tt
