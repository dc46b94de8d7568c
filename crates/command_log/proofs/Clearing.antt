-- What DELETE of all rows leaves.
use Rattle.std.proofs.Common.{◌≡◌, inr, ℕ, List, [], ◌∷◌, map, filter, true, false, None, Ok, Err, Result, OnOk, refl, sym, ap, subst, ◌∙◌}
use Rattle.std.specs.Prelude.{IsTrue}
use Rattle.sqlite.specs.Order.{Row}
use Rattle.sqlite_value.specs.declared.value.Value.TheVariants.{Null}
use Rattle.sqlite.specs.Program.{overlay}
use Rattle.sqlite.specs.Tree.{Trees, rowid}
use Rattle.sqlite_trees.specs.View.{is_int}
use Rattle.sqlite_rules.specs.Lists.{Has}
use Rattle.sqlite_rules.proofs.ListLemmas.{all_has}
use Rattle.sqlite_rules.specs.Edit.{edit_of}
use Rattle.sqlite_rules.specs.Calls.{ids_of}
use Rattle.sqlite_rules.specs.declared.error.Rowids.TheVariants.{Given}
use Rattle.sqlite.specs.Rows.{Written}
use Rattle.sqlite.specs.Store.{Ghosts}
use Rattle.sqlite.specs.Held.{Held, state}
use Rattle.sqlite.specs.Effect.{Database}
use Rattle.sqlite.specs.Does.{Tally, Does}
use Rattle.sqlite.specs.Listing.{understood}
use Rattle.sqlite.specs.State.{State, mode_of, Executes, ExecutesInside}
use Rattle.sqlite.specs.declared.error.Error.{Error}
use Rattle.sqlite.proofs.Callers.{statement_of, runs_as, one_step}
use Rattle.command_log.specs.Table.{log_schema, command_table}
use Rattle.command_log.specs.Lines.{HoldsTable, IsRising, IsOpen, Makes, line_in}
use Rattle.table_rows.proofs.Steps.{went, same_value}
use Rattle.std.proofs.Common.{Some, IfErr}
use Rattle.command_log.specs.Faults.{IsCaused, Nothing, fault_of}
use Rattle.command_log.proofs.Causes.{write_failed}
use Rattle.command_log.proofs.Texts.{clear_text, clear_command, clear_is, clear_plain, clear_whole}
use Rattle.command_log.proofs.Refusals.{clear_stops}
use Rattle.command_log.proofs.Creating.{IsNewLog}
use Rattle.table_rows.proofs.Deleting as deleting

none_left : (rows : List Row) → filter (λ r. false) rows ≡ []
none_left [] = refl
none_left (r ∷ rows) = none_left rows

module _ (old new : State) (holds : HoldsTable old.now) (count : ℕ) where
  clears : Executes clear_text [] old new (Ok count) → IsNewLog new.now
  clears h =
      let text = statement_of clear_text (understood log_schema clear_text) in
      let w = runs_as clear_text [] old new log_schema holds.schema_is clear_command clear_is clear_plain count h in
      let done = went (subst (λ x. Does old.step_limit (mode_of old) [] (record old.now { schema = x }) text None clear_command (Ok (w.tally, new.now)))
      holds.schema_is w.changed) in
      let now = ap (λ (x : Tally × Database). x.1) (same_value (went (went done.2).2).2) in
      let asked = went done.1 in
      let edit = went asked.2 in
      let db = old.now.trees in
      let applied = one_step log_schema _ db edit.0 (edit_of db command_table (ids_of asked.0) Given 0 []) refl edit.1 in
      let trees : new.now.trees ≡ edit.0 = ap (λ (d : Database). d.trees) now ∙ ap (λ (x : Written). x.trees) (same_value edit.2) in
      let keyed : (r : Row) → Has (db 0) r → is_int (rowid r) ≡ true = λ r there. all_has (λ x. IsTrue (is_int (rowid x))) (db 0) r holds.rising.1 there in
      let left = deleting.deleted 0 [] (overlay db []) [] holds.rising.0 keyed asked.0 (asked.1.answer Null) in
      let none : new.now.trees 0 ≡ [] = ap (λ (x : Trees). x 0) trees ∙ applied.rows ∙ left ∙ none_left (db 0) in
      record {
        holds = record { schema_is = ap (λ (d : Database). d.schema) now; rising = subst IsRising (sym none) (tt, tt) };
        lines = ap (map line_in) none;
        sound = w.sound;
      }

module _ {S : Type 0} (g : Ghosts S) (old new : Held S) (holds : IsOpen g old → HoldsTable (state g old).now) where
  pub clears_log : (r : Result ℕ Error) → ExecutesInside 0 clear_text [] (state g old) (state g new) r → OnOk r (Makes g old new)
  clears_log (Err e) h = tt
  clears_log (Ok count) h =
      let it = clears (state g old) (state g new) (holds h.1.was_open) count h.0 in
      record { was_open = h.1.was_open; is_open = h.1.is_open; inside = h.1.mode; holds = it.holds; sound = it.sound; lines = it.lines }

module _ {S : Type 0} (g : Ghosts S) (old new : Held S) (up : IsOpen g old) (holds : HoldsTable (state g old).now) where
  pub clear_failed : (r : Result ℕ Error) → ExecutesInside 0 clear_text [] (state g old) (state g new) r
      → IfErr r (λ e. IsCaused (state g old) (state g new) Nothing (fault_of e))
  clear_failed (Ok count) h = tt
  clear_failed (Err e) h =
      write_failed clear_text [] clear_plain clear_whole (state g old) (state g new) up holds.schema_is clear_command (inr (0, _, refl)) clear_is Nothing
      (λ x does. let it = clear_stops (state g old) holds (Some x) does in subst (λ y. IsCaused (state g old) (state g new) Nothing (fault_of y))
      (sym it.0) it.1)
      (λ does. clear_stops (state g old) holds None does) e h
