-- How the test of a log goes on, and how it ends.
use Rattle.std.proofs.Common.{◌≡◌, inl, inr, ℕ, zero, suc, pos, ◌<◌, List, [], ◌∷◌, length, map, take, refl, sym, ap, subst, ◌∙◌, arith, lit<}
use Rattle.sqlite.specs.Order.{Row}
use Rattle.sqlite.specs.Store.{Ghosts}
use Rattle.sqlite.specs.Effect.{Database}
use Rattle.sqlite.specs.Held.{Held, state}
use Rattle.command_log.specs.Digests.{digest_of}
use Rattle.command_log.specs.declared.fault.LogFault.{LogFault}
use Rattle.command_log.specs.declared.fault.LogFault.TheVariants as fault
use Rattle.command_log.specs.declared.testing.Tested.{Tested}
use Rattle.command_log.specs.Faults.{IsCaused, Unsealed}
use Rattle.command_log.specs.Lines.{AreSealed, GivesRows, HoldsLines, HoldsRows, IsIdle, IsLog, IsOpen, IsTabled, committed_rows, lines_in, line_in, lines_of, place_after, row_of_query, rows_after, rows_of}
use Rattle.command_log.specs.Table.{log_schema, no_schema}
use Rattle.command_log.specs.Testing.{EndsTest, IsTested, Tests}
use Rattle.command_log.proofs.Sealing.{go_on, last_digest, misses, tested_all}

none_taken : (n : ℕ) → 0 < n → (xs : List Row) → take n (map row_of_query xs) ≡ [] → xs ≡ []
none_taken n some [] none = refl
none_taken zero some (x ∷ xs) none = absurd (omega (arith, some))
none_taken (suc n) some (x ∷ xs) none = absurd (let e = none in cc)

module _ {S : Type 0} (g : Ghosts S) (old : Held S) (table : IsTabled g old) (before : Tested) (shown : List Row)
    (gives : GivesRows g old before.place (pos 1000) shown) where
  pub passes : (new : Tested) → Tests before shown new → IsTested (rows_of g old) before → IsTested (rows_of g old) new
  passes new tests tested = go_on (rows_of g old) (table.holds gives.0).rising before 1000 shown gives.1 tested new tests

  pub stops : (end : Held S) (f : LogFault) → EndsTest before shown f → IsTested (rows_of g old) before
      → IsCaused (state g old) (state g end) (Unsealed (rows_of g old)) f
  stops end fault.OutOfMemory ends tested = tt
  stops end (fault.Altered n) ends tested = misses (rows_of g old) (table.holds gives.0).rising before 1000 shown gives.1 tested n ends
  stops end fault.Damaged ends tested = absurd ends
  stops end fault.DiskFull ends tested = absurd ends
  stops end fault.Disk ends tested = absurd ends
  stops end fault.Shut ends tested = absurd ends
  stops end fault.Interrupted ends tested = absurd ends
  stops end fault.NotALog ends tested = absurd ends
  stops end (fault.DamagedTail m n) ends tested = absurd ends
  stops end fault.OlderLog ends tested = absurd ends
  stops end fault.Busy ends tested = absurd ends
  stops end fault.CannotOpen ends tested = absurd ends
  stops end fault.TooBig ends tested = absurd ends
  stops end fault.NumbersUsedUp ends tested = absurd ends
  stops end fault.NotText ends tested = absurd ends
  stops end fault.Store ends tested = absurd ends

  pub none_left : (new : Tested) → Tests before shown new → shown ≡ [] → rows_after new.place (rows_of g old) ≡ []
  none_left new tests none =
      ap (λ p. rows_after p (rows_of g old)) (tests.place ∙ ap (place_after before.place) none)
      ∙ none_taken 1000 (lit< tt) (rows_after before.place (rows_of g old)) (sym gives.1 ∙ none)

module _ {S : Type 0} (g : Ghosts S) (old now : Held S) (was : IsTabled g old) (is : IsTabled g now) (shut : IsOpen g now → IsOpen g old)
    (same : IsOpen g now → (state g now).committed ≡ (state g old).committed) where
  -- an open log that has changed nothing has the rows that it had
  pub same_rows : IsOpen g now → rows_of g now ≡ rows_of g old
  same_rows up = ap (λ (d : Database). d.trees 0) (sym (is.idle.settled up) ∙ same up ∙ was.idle.settled (shut up))

  -- so a test over the rows that it has is one over those
  pub tested_on : (t new : Tested) → IsOpen g now → IsTested (rows_of g old) t → (IsTested (rows_of g now) t → IsTested (rows_of g now) new)
      → IsTested (rows_of g old) new
  tested_on t new up tested more =
      subst (λ rows. IsTested rows new) (same_rows up) (more (subst (λ rows. IsTested rows t) (sym (same_rows up)) tested))

  pub none_on : (t : Tested) → IsOpen g now → rows_after t.place (rows_of g now) ≡ [] → rows_after t.place (rows_of g old) ≡ []
  none_on t up none = subst (λ rows. rows_after t.place rows ≡ []) (same_rows up) none

  module _ (t : Tested) (tested : IsOpen g now → IsTested (rows_of g old) t) (none : IsOpen g now → rows_after t.place (rows_of g old) ≡ []) where
    pub sealed_log : IsLog g now
    sealed_log = record {
      idle = is.idle;
      holds = λ up. record { table = is.holds up; sealed = subst AreSealed (sym (same_rows up)) (tested_all (rows_of g old) t (none up) (tested up)) };
    }

    pub sealed_digest : IsOpen g now → t.digest ≡ digest_of (lines_of g now)
    sealed_digest up =
        last_digest (rows_of g old) t (none up) (tested up)
        ∙ ap (λ (rows : List Row). digest_of (map line_in rows)) (sym (same_rows up) ∙ ap (λ (d : Database). d.trees 0) (sym (is.idle.settled up)))

module _ {S : Type 0} (g : Ghosts S) (old now : Held S) where
  -- a log whose test has changed nothing has the lines that the database holds
  pub over_lines : IsIdle g old → IsLog g now → (IsOpen g now → IsOpen g old) → (IsOpen g now → (state g now).committed ≡ (state g old).committed)
      → (state g old).now.schema ≡ log_schema → IsOpen g now → HoldsLines (state g old).now (lines_of g now)
  over_lines resting log shut same schema up =
      let settled : (state g now).committed ≡ (state g old).now = same up ∙ resting.settled (shut up) in
      let rows : (state g now).now ≡ (state g old).now = sym (log.idle.settled up) ∙ settled in
      inl (schema, ap (λ (d : Database). lines_in d.trees) settled, subst (λ (d : Database). AreSealed (d.trees 0)) rows (log.holds up).sealed)

  -- and its rows
  pub over_rows : IsIdle g old → (IsOpen g now → IsOpen g old) → (IsOpen g now → (state g now).committed ≡ (state g old).committed)
      → (state g old).now.schema ≡ log_schema → IsOpen g now → HoldsRows (state g old).now (committed_rows g now)
  over_rows resting shut same schema up = inl (schema, ap (λ (d : Database). d.trees 0) (same up ∙ resting.settled (shut up)))

no_rows : (rows : List Row) → map line_in rows ≡ [] → rows ≡ []
no_rows [] none = refl
no_rows (r ∷ rows) none = absurd (let e = none in cc)

-- a log that was made has none
pub made_rows : {S : Type 0} (g : Ghosts S) (conn log : Held S) → (state g conn).now.schema ≡ no_schema → lines_of g log ≡ []
    → HoldsRows (state g conn).now (committed_rows g log)
made_rows g conn log bare empty = inr (bare, no_rows (committed_rows g log) empty)
