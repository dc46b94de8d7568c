-- What the statement makes that makes the table.
use Rattle.std.proofs.Common.{◌≡◌, ℕ, [], Ok, Err, Result, OnOk, sym, ap, subst, ◌∙◌}
use Rattle.sqlite.specs.Effect.{Database, IsDatabase}
use Rattle.sqlite.specs.Change.{created, next_tree}
use Rattle.sqlite.specs.Does.{Tally, lacks_sequence}
use Rattle.sqlite.specs.Command.TheVariants.{CreateTable}
use Rattle.sqlite.specs.Store.{Ghosts}
use Rattle.sqlite.specs.State.{State, Executes, ExecutesInside, Writes}
use Rattle.sqlite.specs.Held.{Held, state}
use Rattle.sqlite.specs.declared.error.Error.{Error}
use Rattle.sqlite.proofs.Callers.{runs_as}
use Rattle.std.proofs.Common.{None}
use Rattle.command_log.specs.Table.{create_text, command_table, no_schema, log_schema}
use Rattle.command_log.specs.Lines.{HoldsTable, IsRising, IsOpen, Makes, lines_in, line_in}
use Rattle.command_log.proofs.Texts.{create_is, create_plain, lacks_none}
use Rattle.table_rows.proofs.Steps.{went, same_value}
use Rattle.std.proofs.Common.{map, false}

pub record IsNewLog (new : Database) : Type 0 where
  pub holds : HoldsTable new
  pub lines : lines_in new.trees ≡ []
  pub sound : IsDatabase new

module _ (old new : State) (bare : old.now.schema ≡ no_schema) (count : ℕ) where
  creates : Executes create_text [] old new (Ok count) → IsNewLog new.now
  creates h =
      let w = subst (λ t. Writes old new None CreateTable t [] count) create_is.1 (runs_as create_text [] old new no_schema bare CreateTable create_is.0
      create_plain count h) in
      let all = went w.changed in
      let first = went all.1 in
      let made = first.1 in
      let same : made.table ≡ command_table = same_value (sym made.defined ∙ create_is.2) in
      let schema : first.0.schema ≡ log_schema = made.is ∙ ap (λ s. created s made.table) bare ∙ ap (created no_schema) same in
      let plain : lacks_sequence first.0.schema ≡ false = ap lacks_sequence schema ∙ lacks_none in
      let now : new.now ≡ first.0 = ap (λ (p : Tally × Database). p.1) (same_value all.2) ∙ same_value (rw plain at first.2) in
      let none : new.now.trees 0 ≡ [] = ap (λ (d : Database). d.trees 0) now ∙ subst (λ s. first.0.trees (next_tree s) ≡ []) bare made.empty in
      record {
        holds = record { schema_is = ap (λ (d : Database). d.schema) now ∙ schema; rising = subst IsRising (sym none) (tt, tt) };
        lines = ap (map line_in) none;
        sound = w.sound;
      }

module _ {S : Type 0} (g : Ghosts S) (old new : Held S) (bare : IsOpen g old → (state g old).now.schema ≡ no_schema) where
  pub makes_log : (r : Result ℕ Error) → ExecutesInside 0 create_text [] (state g old) (state g new) r → OnOk r (Makes g old new)
  makes_log (Err e) h = tt
  makes_log (Ok count) h =
      let it = creates (state g old) (state g new) (bare h.1.was_open) count h.0 in
      record { was_open = h.1.was_open; is_open = h.1.is_open; inside = h.1.mode; holds = it.holds; sound = it.sound; lines = it.lines }
