-- The queries of lines, however they end.
use Rattle.std.proofs.Common.{◌≡◌, ◌⊎◌, inl, inr, ℕ, ℤ, pos, List, [], ◌∷◌, map, drop, true, Option, None, Some, Ok, Err, Result, IfOk, IfErr, Vec, refl}
use Rattle.std.proofs.Common.{sym, ap, subst, ◌∙◌}
use Rattle.std.specs.declared.alloc.Global.{Global}
use Rattle.sqlite.specs.Order.{Row}
use Rattle.sqlite.specs.Query.{as_count, limited}
use Rattle.sqlite_value.specs.declared.value.Value.TheVariants.{Int}
use Rattle.sqlite.specs.declared.error.Error.{Error}
use Rattle.sqlite.specs.Store.{Ghosts}
use Rattle.sqlite.specs.Held.{Held, state}
use Rattle.sqlite.specs.Effect.{Database}
use Rattle.sqlite.specs.State.{State, KeepsCommit, FailsToQuery, Shown, IsTooLate}
use Rattle.command_log.specs.Lines.{HoldsTable, IsOpen, IsTabled, GivesRows, lines_left, lines_after, IsLineRow, row_of_query, rows_after, text_in, place_after}
use Rattle.command_log.specs.Inside.{ReadsRows}
use Rattle.command_log.proofs.Putting.{same_commit}
use Rattle.command_log.proofs.Queries.{answered, unanswered, answered_open, unchanged}
use Rattle.sqlite.specs.Term.{lit, col}
use Rattle.table_rows.proofs.Answering as answering
use Rattle.command_log.specs.Faults.{fault_of, IsCaused, Nothing, Unreadable, AreText}
use Rattle.command_log.proofs.Causes.{query_failed}
use Rattle.command_log.proofs.Texts.{first_text, later_text, query, projects, orders, wheres, names, first_is, first_plain, first_whole, later_is, later_plain}
use Rattle.command_log.proofs.Texts.{later_whole}
use Rattle.command_log.proofs.Reading.{reads_first, reads_later}
use Rattle.std.specs.Prelude.{IsUtf8, All}
use Rattle.std.proofs.lemmas.List.Elements.{All-take}
use Rattle.sqlite_catalog.specs.Listing.{IsSound}
use Rattle.sqlite.specs.State.{IsLive}
use Rattle.sqlite.specs.declared.error.Error.TheVariants.{SqliteFailure, Utf8Error}
use Rattle.sqlite.specs.declared.error.ErrorCode.TheVariants.{OutOfMemory}
use Rattle.command_log.specs.Table.{log_schema}
use Rattle.command_log.proofs.Typed.{all_lines}
use Rattle.command_log.proofs.Batches.{texts, left}

pub keeps_commit : (sql : List ℕ) (params : Row) (old new : State) → old.in_transaction ≡ true → (r : Result (Vec Row Global) Error)
    → IfOk r (λ rows. Shown sql params old new rows.items)
    → IfErr r (λ e. FailsToQuery sql params old new e ⊎ IsTooLate sql params old new e) → KeepsCommit old new
keeps_commit sql params old new inside (Ok rows) ok err = answered old new inside sql params rows.items ok
keeps_commit sql params old new inside (Err e) ok (inl failed) = unanswered old new inside sql params e failed
keeps_commit sql params old new inside (Err e) ok (inr late) = same_commit old new late.5

module _ {S : Type 0} (g : Ghosts S) (old new : Held S) (inside : old.in_transaction ≡ true) (holds : IsOpen g old → HoldsTable (state g old).now) where
  -- what each query shows is the rows after its place
  pub reads_first_rows : (limit : ℤ) (r : Result (Vec Row Global) Error)
      → IfOk r (λ rows. Shown first_text (Int limit ∷ []) (state g old) (state g new) rows.items)
      → IfOk r (λ rows. ReadsRows g old new None limit rows.items)
  reads_first_rows limit (Ok rows) ok =
      let up = answered_open (state g old) (state g new) inside first_text (Int limit ∷ []) rows.items ok in
      record {
        same = unchanged log_schema first_text (Int limit ∷ []) first_plain (state g old) (state g new) (holds up).schema_is rows.items ok;
        are = (up, reads_first (state g old) (state g new) limit rows.items (holds up) ok);
      }
  reads_first_rows limit (Err e) ok = tt

  pub reads_later_rows : (n limit : ℤ) (r : Result (Vec Row Global) Error)
      → IfOk r (λ rows. Shown later_text (Int n ∷ Int limit ∷ []) (state g old) (state g new) rows.items)
      → IfOk r (λ rows. ReadsRows g old new (Some n) limit rows.items)
  reads_later_rows n limit (Ok rows) ok =
      let up = answered_open (state g old) (state g new) inside later_text (Int n ∷ Int limit ∷ []) rows.items ok in
      record {
        same = unchanged log_schema later_text (Int n ∷ Int limit ∷ []) later_plain (state g old) (state g new) (holds up).schema_is rows.items ok;
        are = (up, reads_later (state g old) (state g new) n limit rows.items (holds up) ok);
      }
  reads_later_rows n limit (Err e) ok = tt

module _ {S : Type 0} (g : Ghosts S) (old new : Held S) (inside : old.in_transaction ≡ true) (up : IsOpen g old) (holds : HoldsTable (state g old).now) where
  pub first_failed : (limit : ℤ) (r : Result (Vec Row Global) Error)
      → IfErr r (λ e. FailsToQuery first_text (Int limit ∷ []) (state g old) (state g new) e ⊎ IsTooLate first_text (Int limit ∷ []) (state g old)
      (state g new) e)
      → IfErr r (λ e. IsCaused (state g old) (state g new) Nothing (fault_of e))
  first_failed limit (Ok rows) err = tt
  first_failed limit (Err e) err =
      query_failed first_text (Int limit ∷ []) first_plain first_whole (state g old) (state g new) up holds.schema_is (query [] (col 0 0)) names first_is.0
      first_is.1 refl
      (λ db. answering.never_sums 0 [] projects [] orders (col 0 0) (lit (Int (pos 0))) db (Int limit ∷ [])) Nothing e inside err

  pub later_failed : (n limit : ℤ) (r : Result (Vec Row Global) Error)
      → IfErr r (λ e. FailsToQuery later_text (Int n ∷ Int limit ∷ []) (state g old) (state g new) e ⊎ IsTooLate later_text (Int n ∷ Int limit ∷ [])
      (state g old) (state g new) e)
      → IfErr r (λ e. IsCaused (state g old) (state g new) Nothing (fault_of e))
  later_failed n limit (Ok rows) err = tt
  later_failed n limit (Err e) err =
      query_failed later_text (Int n ∷ Int limit ∷ []) later_plain later_whole (state g old) (state g new) up holds.schema_is (query wheres (col 0 1)) names
      later_is.0 later_is.1 refl
      (λ db. answering.never_sums 0 wheres projects [] orders (col 0 1) (lit (Int (pos 0))) db (Int n ∷ Int limit ∷ [])) Nothing e inside err

-- what the rows say of a log
module _ {S : Type 0} (g : Ghosts S) (old : Held S) (log : IsTabled g old) (place : Option ℤ) (limit : ℤ) (rows : List Row)
    (gives : GivesRows g old place limit rows) where
  settled : (after : Option ℤ) → lines_after after (state g old).now.trees ≡ lines_left g old after
  settled after = ap (λ (d : Database). lines_after after d.trees) (sym (log.idle.settled gives.0))

  pub lines_read : map text_in rows ≡ limited (as_count (Int limit)) (lines_left g old place)
  lines_read =
      ap (map text_in) gives.1 ∙ texts place ((state g old).now.trees 0) (log.holds gives.0).rising (as_count (Int limit)) ∙ ap (limited (as_count (Int limit)))
      (settled place)

  pub lines_unread : (n : ℕ) → limit ≡ pos n → lines_left g old (place_after place rows) ≡ drop n (lines_left g old place)
  lines_unread n is =
      let all : rows ≡ limited (as_count (Int (pos n))) (map row_of_query (rows_after place ((state g old).now.trees 0)))
      = subst (λ k. rows ≡ limited (as_count (Int k)) (map row_of_query (rows_after place ((state g old).now.trees 0)))) is gives.1 in
      sym (settled (place_after place rows)) ∙ ap (λ l. lines_after (place_after place l) (state g old).now.trees) all
      ∙ left place ((state g old).now.trees 0) (log.holds gives.0).rising n ∙ ap (drop n) (settled place)

  pub rows_are_lines : IsLive (state g old) → All IsLineRow rows
  rows_are_lines live =
      let holds = log.holds gives.0 in
      let db = (state g old).now.trees in
      let sound : IsSound log_schema db = subst (λ s. IsSound s db) holds.schema_is (live gives.0).0 in
      subst (All IsLineRow) (sym gives.1) (all_lines db sound holds.rising place (as_count (Int limit)))

  all_limited : (count : Option ℕ) (lines : List (List ℕ)) → AreText lines → AreText (limited count lines)
  all_limited None lines all = all
  all_limited (Some n) lines all = All-take IsUtf8 n lines all

  pub read_failed : (end : Held S) (e : Error) → (e ≡ SqliteFailure OutOfMemory) ⊎ ((e ≡ Utf8Error 1) × ¬ AreText (map text_in rows))
      → IsCaused (state g old) (state g end) (Unreadable (lines_left g old place)) (fault_of e)
  read_failed end e (inl memory) = subst (λ x. IsCaused (state g old) (state g end) (Unreadable (lines_left g old place)) (fault_of x)) (sym memory) tt
  read_failed end e (inr bad) = subst (λ x. IsCaused (state g old) (state g end) (Unreadable (lines_left g old place)) (fault_of x)) (sym bad.0)
      (λ all. bad.1 (subst AreText (sym lines_read) (all_limited (as_count (Int limit)) (lines_left g old place) all)))
