-- What INSERT makes of the lines.
use Rattle.std.proofs.Common.{◌≡◌, ℕ, List, [], ◌∷◌, ◌++◌, map, None, Ok, refl, sym, ap, subst, ◌∙◌}
use Rattle.std.proofs.Common.{ℤ, pos, ◌+ℤ◌}
use Rattle.sqlite_rules.proofs.TableLemmas.{next_after}
use Rattle.sqlite.specs.Order.{Row}
use Rattle.sqlite_value.specs.declared.value.Value.TheVariants.{Null, Int, Text, Blob}
use Rattle.sqlite_rules.specs.declared.error.Rowids.TheVariants.{Chosen}
use Rattle.sqlite_rules.specs.Edit.{edit_of, edited, next_rowid}
use Rattle.sqlite.specs.Tree.{Trees, put_row}
use Rattle.sqlite.specs.Rows.{Written}
use Rattle.sqlite.specs.Effect.{Database, IsDatabase}
use Rattle.sqlite.specs.Does.{Tally, Does}
use Rattle.sqlite.specs.Listing.{understood}
use Rattle.sqlite.specs.State.{State, mode_of, Executes, Writes}
use Rattle.sqlite.proofs.Callers.{statement_of, runs_as, one_step}
use Rattle.table_rows.proofs.Steps.{went, same_value}
use Rattle.table_rows.proofs.Casting.{cast_int, cast_null}
use Rattle.command_log.specs.Table.{command_table, log_schema}
use Rattle.command_log.specs.Lines.{HoldsTable, IsRising, lines_in, line_in, digest_in}
use Rattle.command_log.proofs.Texts.{insert_text, insert_command, insert_is, insert_plain}
use Rattle.command_log.proofs.Texts.{insert_at_text, insert_at_command, insert_at_is, insert_at_plain}
use Rattle.command_log.proofs.Numbers.{put_last, still_rises, map_last}

abbrev pub rest_of : List ℕ → List ℕ → Row
rest_of line sum = Null ∷ Text line ∷ Blob sum ∷ []

-- what one more line with this number makes of a database
pub record AddsAt (number : ℤ) (line sum : List ℕ) (old new : Database) : Type 0 where
  pub holds : HoldsTable new
  pub lines : lines_in new.trees ≡ lines_in old.trees ++ line ∷ []
  pub digests : map digest_in (new.trees 0) ≡ map digest_in (old.trees 0) ++ sum ∷ []
  pub sound : IsDatabase new
  pub next : next_rowid (new.trees 0) ≡ number +ℤ pos 1

-- and one with the number after the last
abbrev pub Adds : List ℕ → List ℕ → Database → Database → Type 0
Adds line sum old = AddsAt (next_rowid (old.trees 0)) line sum old

module _ (old new : State) (holds : HoldsTable old.now) (line sum : List ℕ) (count : ℕ) where
  pub wrote_line : Executes insert_text (Text line ∷ Blob sum ∷ []) old new (Ok count) → Writes old new None insert_command
      (statement_of insert_text (understood log_schema insert_text)) (Text line ∷ Blob sum ∷ []) count
  wrote_line h = runs_as insert_text (Text line ∷ Blob sum ∷ []) old new log_schema holds.schema_is insert_command insert_is insert_plain count h

  pub adds_line : Executes insert_text (Text line ∷ Blob sum ∷ []) old new (Ok count) → Adds line sum old.now new.now
  adds_line h =
      let params = Text line ∷ Blob sum ∷ [] in
      let db = old.now.trees in
      let w = wrote_line h in
      let text = statement_of insert_text (understood log_schema insert_text) in
      let done = went (subst (λ s. Does old.step_limit (mode_of old) params (record old.now { schema = s }) text None insert_command (Ok (w.tally, new.now)))
      holds.schema_is w.changed) in
      let now = ap (λ (p : Tally × Database). p.1) (same_value (went (went done.2).2).2) in
      let given = went done.1 in
      let written = went (went given.2).2 in
      let counted = went written.2 in
      let trees : done.0.trees ≡ written.0 = ap (λ (it : Written). it.trees) (same_value counted.2) ∙ same_value counted.1 in
      let rows = (one_step log_schema _ db written.0 (edit_of db command_table [] Chosen 0 given.0) refl written.1).rows in
      let edit : edited db (edit_of db command_table [] Chosen 0 given.0) ≡ put_row (Int (next_rowid (db 0)) ∷ rest_of line sum) (db 0) =
      ap (λ all. edited db (edit_of db command_table [] Chosen 0 all)) given.1.1 ∙ rw cast_null refl in
      let table : new.now.trees 0 ≡ put_row (Int (next_rowid (db 0)) ∷ rest_of line sum) (db 0) = ap (λ (d : Database). d.trees 0) now
      ∙ ap (λ (t : Trees). t 0) trees ∙ rows ∙ edit in
      record {
        holds = record {
          schema_is = ap (λ (d : Database). d.schema) now;
          rising = subst IsRising (sym table)
              (still_rises (db 0) (rest_of line sum) holds.rising);
        };
        lines = ap (map line_in) (table ∙ put_last (db 0) (rest_of line sum) holds.rising) ∙ map_last line_in (db 0) (Int (next_rowid (db 0)) ∷ rest_of line sum);
        digests = ap (map digest_in) (table ∙ put_last (db 0) (rest_of line sum) holds.rising) ∙ map_last digest_in (db 0) (Int (next_rowid (db 0)) ∷ rest_of line sum);
        sound = w.sound;
        next = ap next_rowid (table ∙ put_last (db 0) (rest_of line sum) holds.rising) ∙ next_after (db 0) (Int (next_rowid (db 0)) ∷ rest_of line sum);
      }

module _ (old new : State) (holds : HoldsTable old.now) (none : old.now.trees 0 ≡ []) (number : ℤ) (line sum : List ℕ) (count : ℕ) where
  abbrev first : List Row
  first = (Int number ∷ rest_of line sum) ∷ []

  pub adds_at : Executes insert_at_text (Int number ∷ Text line ∷ Blob sum ∷ []) old new (Ok count) → AddsAt number line sum old.now new.now
  adds_at h =
      let params = Int number ∷ Text line ∷ Blob sum ∷ [] in
      let db = old.now.trees in
      let w = runs_as insert_at_text params old new log_schema holds.schema_is insert_at_command insert_at_is insert_at_plain count h in
      let text = statement_of insert_at_text (understood log_schema insert_at_text) in
      let done = went (subst (λ s. Does old.step_limit (mode_of old) params (record old.now { schema = s }) text None insert_at_command (Ok (w.tally, new.now)))
      holds.schema_is w.changed) in
      let now = ap (λ (p : Tally × Database). p.1) (same_value (went (went done.2).2).2) in
      let given = went done.1 in
      let written = went (went given.2).2 in
      let counted = went written.2 in
      let trees : done.0.trees ≡ written.0 = ap (λ (it : Written). it.trees) (same_value counted.2) ∙ same_value counted.1 in
      let rows = (one_step log_schema _ db written.0 (edit_of db command_table [] Chosen 0 given.0) refl written.1).rows in
      let edit : edited db (edit_of db command_table [] Chosen 0 given.0) ≡ put_row (Int number ∷ rest_of line sum) (db 0) =
      ap (λ all. edited db (edit_of db command_table [] Chosen 0 all)) given.1.1 ∙ rw (cast_int, cast_null) refl in
      let table : new.now.trees 0 ≡ first = ap (λ (d : Database). d.trees 0) now
      ∙ ap (λ (t : Trees). t 0) trees ∙ rows ∙ edit ∙ ap (put_row (Int number ∷ rest_of line sum)) none in
      record {
        holds = record { schema_is = ap (λ (d : Database). d.schema) now; rising = subst IsRising (sym table) ((tt, tt), (refl, tt)) };
        lines = ap (map line_in) table ∙ ap (λ l. map line_in l ++ line ∷ []) (sym none);
        digests = ap (map digest_in) table ∙ ap (λ l. map digest_in l ++ sum ∷ []) (sym none);
        sound = w.sound;
        next = ap next_rowid table;
      }
