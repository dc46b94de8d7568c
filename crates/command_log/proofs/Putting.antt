-- A line that is put within a transaction.
use Rattle.std.proofs.Common.{◌≡◌, inl, inr, ℕ, List, [], ◌∷◌, ◌++◌, length, Ok, Err, Result, IfOk}
use Rattle.sqlite.specs.Order.{Row}
use Rattle.sqlite_value.specs.declared.value.Value.TheVariants.{Int, Text, Blob}
use Rattle.sqlite.specs.Store.{Ghosts}
use Rattle.sqlite.specs.State.{State, KeepsCommit, IsUnchanged, IsRolledBack, ExecutesInside}
use Rattle.sqlite.specs.Held.{Held, state}
use Rattle.sqlite.specs.declared.error.Error.{Error}
use Rattle.command_log.specs.Lines.{HoldsTable, IsOpen, Puts, PutsAt}
use Rattle.std.proofs.Common.{ℤ, negsuc, w64, FitsSigned, true, false, true≢false, IfErr, Some, None, pos, ◌+ℤ◌, lit<, refl, sym, ap, subst, ◌∙◌, arith}
use Rattle.std.proofs.lemmas.Int.{ints}
use Rattle.std.proofs.lemmas.Bool.Decides.{nat_tests}
use Rattle.sqlite_sql.specs.Ops.{fits_i64}
use Rattle.sha2.specs.Sha256.{sha256}
use Rattle.sqlite_rules.specs.Edit.{next_rowid}
use Rattle.command_log.specs.Lines.{rows_of}
use Rattle.command_log.specs.Faults.{IsCaused, IsUsedUp, Unstorable, fault_of}
use Rattle.command_log.proofs.Causes.{write_failed}
use Rattle.command_log.proofs.Refusals.{PutStops, put_stops, put_at_stops}
use Rattle.command_log.proofs.Texts.{insert_text, insert_command, insert_is, insert_plain, insert_whole}
use Rattle.command_log.proofs.Texts.{insert_at_text, insert_at_command, insert_at_is, insert_at_plain, insert_at_whole}
use Rattle.command_log.proofs.Inserting.{adds_line, adds_at}

-- a number of 64 bits is one that a row may have
pub fits : (n : ℤ) → FitsSigned w64 n → fits_i64 n ≡ true
fits (pos n) h = grind (arith, ints, nat_tests, h)
fits (negsuc n) h = grind (arith, ints, nat_tests, h)

pub same_commit : (old new : State) → IsUnchanged old new → KeepsCommit old new
same_commit old new h = record { was_open = λ up. h.0.was_open; committed = λ up. h.0.committed_is }

pub back_commit : (old new : State) → IsRolledBack old new → KeepsCommit old new
back_commit old new h = record { was_open = h.was_open; committed = λ up. (h.undone up).1 }

-- within a transaction nothing is committed
pub keeps_commit : (sql : List ℕ) (params : Row) (old new : State) (r : Result ℕ Error) → ExecutesInside 0 sql params old new r → KeepsCommit old new
keeps_commit sql params old new (Ok count) h = record { was_open = λ up. h.1.was_open; committed = λ up. h.1.committed_is }
keeps_commit sql params old new (Err e) (inl ran) = elim ran.1 [ inl same ↦ same_commit old new same | inr back ↦ back_commit old new back ]
keeps_commit sql params old new (Err e) (inr ends) = same_commit old new ends.2

module _ {S : Type 0} (g : Ghosts S) (old new : Held S) (line digest : List ℕ) (holds : IsOpen g old → HoldsTable (state g old).now) where
  pub puts_line : (r : Result ℕ Error) → ExecutesInside 0 insert_text (Text line ∷ Blob (sha256 (digest ++ line)) ∷ []) (state g old) (state g new) r
      → IfOk r (λ _. Puts g old new digest (line ∷ []))
  puts_line (Err e) h = tt
  puts_line (Ok count) h =
      let adds = adds_line (state g old) (state g new) (holds h.1.was_open) line (sha256 (digest ++ line)) count h.0 in
      record {
        was_open = h.1.was_open;
        is_open = h.1.is_open;
        inside = h.1.mode;
        holds = adds.holds;
        sound = adds.sound;
        lines = adds.lines;
        digests = adds.digests;
        next = adds.next;
      }

module _ {S : Type 0} (g : Ghosts S) (old new : Held S) (number : ℤ) (line digest : List ℕ) (holds : IsOpen g old → HoldsTable (state g old).now)
    (none : IsOpen g old → rows_of g old ≡ []) where
  pub puts_at : (r : Result ℕ Error) → ExecutesInside 0 insert_at_text (Int number ∷ Text line ∷ Blob (sha256 (digest ++ line)) ∷ []) (state g old) (state g new) r
      → IfOk r (λ _. PutsAt g number old new digest (line ∷ []))
  puts_at (Err e) h = tt
  puts_at (Ok count) h =
      let adds = adds_at (state g old) (state g new) (holds h.1.was_open) (none h.1.was_open) number line (sha256 (digest ++ line)) count h.0 in
      record {
        was_open = h.1.was_open;
        is_open = h.1.is_open;
        inside = h.1.mode;
        holds = adds.holds;
        sound = adds.sound;
        lines = adds.lines;
        digests = adds.digests;
        next = adds.next;
      }

module _ {S : Type 0} (g : Ghosts S) (old new : Held S) (line sum : List ℕ) (long : length sum ≡ 32) (up : IsOpen g old) (holds : HoldsTable (state g old).now)
  where
    -- why a line with this number is not put
    stops : (rows : List Row) (n : ℤ) (e : Error) → (fits_i64 n ≡ false → IsUsedUp rows 0) → PutStops (state g old) holds line sum long n (Some e)
        → IsCaused (state g old) (state g new) (Unstorable rows (line ∷ [])) (fault_of e)
    stops rows n e used (inl late) = subst (λ x. IsCaused (state g old) (state g new) (Unstorable rows (line ∷ [])) (fault_of x)) (sym late.0) late.1
    stops rows n e used (inr big) = subst (λ x. IsCaused (state g old) (state g new) (Unstorable rows (line ∷ [])) (fault_of x)) (sym big.0) (0, lit< tt, used big.1)

    used_up : fits_i64 (next_rowid (rows_of g old)) ≡ false → IsUsedUp (rows_of g old) 0
    used_up big = let same : next_rowid (rows_of g old) +ℤ pos 0 ≡ next_rowid (rows_of g old) = omega (arith, ints) in ap fits_i64 same ∙ big

    pub put_failed : (r : Result ℕ Error) → ExecutesInside 0 insert_text (Text line ∷ Blob sum ∷ []) (state g old) (state g new) r
        → IfErr r (λ e. IsCaused (state g old) (state g new) (Unstorable (rows_of g old) (line ∷ [])) (fault_of e))
    put_failed (Ok count) h = tt
    put_failed (Err e) h =
        write_failed insert_text (Text line ∷ Blob sum ∷ []) insert_plain insert_whole (state g old) (state g new) up holds.schema_is insert_command
        (inl (0, _, refl)) insert_is (Unstorable (rows_of g old) (line ∷ []))
        (λ x does. stops (rows_of g old) (next_rowid (rows_of g old)) x used_up (put_stops (state g old) holds line sum long (Some x) does))
        (λ does. (line, (0, lit< tt, refl), put_stops (state g old) holds line sum long None does)) e h

    pub put_at_failed : (number : ℤ) → fits_i64 number ≡ true → rows_of g old ≡ [] → (r : Result ℕ Error)
        → ExecutesInside 0 insert_at_text (Int number ∷ Text line ∷ Blob sum ∷ []) (state g old) (state g new) r
        → IfErr r (λ e. IsCaused (state g old) (state g new) (Unstorable [] (line ∷ [])) (fault_of e))
    put_at_failed number fits none (Ok count) h = tt
    put_at_failed number fits none (Err e) h =
        write_failed insert_at_text (Int number ∷ Text line ∷ Blob sum ∷ []) insert_at_plain insert_at_whole (state g old) (state g new) up holds.schema_is
        insert_at_command (inl (0, _, refl)) insert_at_is (Unstorable [] (line ∷ []))
        (λ x does. stops [] number x (λ big. absurd (true≢false (sym fits ∙ big))) (put_at_stops (state g old) holds line sum long number none (Some x) does))
        (λ does. (line, (0, lit< tt, refl), put_at_stops (state g old) holds line sum long number none None does)) e h
