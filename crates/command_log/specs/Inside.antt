-- What the statements of a transaction on a log leave.
use Rattle.std.specs.Prelude.{◌≡◌, ℤ, true, List, Option, Result, IfOk, IfErr}
use Rattle.sqlite.specs.Order.{Row}
use Rattle.sqlite.specs.Store.{Ghosts}
use Rattle.sqlite.specs.Held.{Held, state}
use Rattle.sqlite.specs.State.{HasCleanDisk, IsUnchanged, KeepsCommit, Survives}
use Rattle.sqlite.specs.declared.error.Error.{Error}
use Rattle.sqlite.specs.declared.transaction.Transaction.{Transaction}
use Rattle.command_log.specs.declared.fault.LogFault.{LogFault}
use Rattle.command_log.specs.Faults.{fault_of, IsCaused}
use Rattle.command_log.specs.Lines.{HoldsTable, IsOpen, GivesRows}

module _ {S : Type 0} (g : Ghosts S) where
  -- a transaction of a log, unless a failure has ended it
  pub record IsInside (tx : Transaction S) : Type 0 where
    pub inside : HasCleanDisk (state g tx.conn.now) → tx.conn.now.in_transaction ≡ true
    pub holds : IsOpen g tx.conn.now → HoldsTable (state g tx.conn.now).now

  -- What a call within a transaction leaves: it commits nothing, and a crash leaves what it could leave before. `Does` holds of the result if it succeeds; an
  -- open log fails by one of the faults `Own`, or by what it met.
  pub record InLog {A : Type 0} (old new : Transaction S) (result : Result A Error) (Does : A → Type 0) (Own : LogFault → Type 0) : Type 0 where
    pub same_reference : new.conn.ghost_name ≡ old.conn.ghost_name
    pub survives : Survives (state g old.conn.now) (state g new.conn.now) (λ _. ⊥)
    pub commit : HasCleanDisk (state g new.conn.now) → KeepsCommit (state g old.conn.now) (state g new.conn.now)
    pub does : HasCleanDisk (state g new.conn.now) → IfOk result Does
    pub cause : HasCleanDisk (state g new.conn.now) → IsOpen g old.conn.now
        → IfErr result (λ e. IsCaused (state g old.conn.now) (state g new.conn.now) Own (fault_of e))

  -- a query of the lines after a place has changed nothing, and has given these rows
  pub record ReadsRows (old new : Held S) (place : Option ℤ) (limit : ℤ) (rows : List Row) : Type 0 where
    pub same : IsUnchanged (state g old) (state g new)
    pub are : GivesRows g old place limit rows
