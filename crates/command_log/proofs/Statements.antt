-- What a statement within a transaction leaves, by what the database says of it.
use Rattle.std.proofs.Common.{◌≡◌, ◌⊎◌, ℕ, true, List, Result, IfOk, IfErr, Vec, arith}
use Rattle.std.specs.Prelude.{IsTrue}
use Rattle.std.specs.declared.alloc.Global.{Global}
use Rattle.sqlite.specs.Order.{Row}
use Rattle.sqlite.specs.Store.{Ghosts}
use Rattle.sqlite.specs.Held.{state}
use Rattle.sqlite.specs.State.{HasCleanDisk, Survives, ExecutesInside, Shown, FailsToQuery, IsTooLate}
use Rattle.sqlite.specs.declared.error.Error.{Error}
use Rattle.sqlite.specs.declared.transaction.Transaction.{Transaction}
use Rattle.command_log.specs.declared.fault.LogFault.{LogFault}
use Rattle.command_log.specs.Faults.{IsCaused, fault_of}
use Rattle.command_log.specs.Lines.{IsOpen}
use Rattle.command_log.specs.Inside.{IsInside, InLog}
use Rattle.command_log.proofs.Putting as putting
use Rattle.command_log.proofs.QuerySteps as queries

module _ {S : Type 0} (g : Ghosts S) (old new : Transaction S) where
  -- what the database says of a query, however it ends
  pub record IsAsked (sql : List ℕ) (params : Row) (r : Result (Vec Row Global) Error) : Type 0 where
    pub ok : HasCleanDisk (state g new.conn.now) → IfOk r (λ rows. Shown sql params (state g old.conn.now) (state g new.conn.now) rows.items)
    pub err : HasCleanDisk (state g new.conn.now) → IfErr r (λ e. FailsToQuery sql params (state g old.conn.now) (state g new.conn.now) e
        ⊎ IsTooLate sql params (state g old.conn.now) (state g new.conn.now) e)

  module _ (before : IsInside g old) (same : new.conn.ghost_name ≡ old.conn.ghost_name)
      (survives : Survives (state g old.conn.now) (state g new.conn.now) (λ _. ⊥)) where
    -- the transaction was under way
    inside : HasCleanDisk (state g new.conn.now) → old.conn.now.in_transaction ≡ true
    inside clean = before.inside (omega (arith, survives.clean, clean))

    -- a statement that writes
    pub executed : {Does : ℕ → Type 0} {Own : LogFault → Type 0} (sql : List ℕ) (params : Row) (r : Result ℕ Error)
        → (HasCleanDisk (state g new.conn.now) → IsTrue old.conn.now.in_transaction
        → ExecutesInside 0 sql params (state g old.conn.now) (state g new.conn.now) r)
        → (ExecutesInside 0 sql params (state g old.conn.now) (state g new.conn.now) r → IfOk r Does)
        → (IsOpen g old.conn.now → ExecutesInside 0 sql params (state g old.conn.now) (state g new.conn.now) r
        → IfErr r (λ e. IsCaused (state g old.conn.now) (state g new.conn.now) Own (fault_of e)))
        → InLog g old new r Does Own
    executed sql params r runs does fails = record {
      same_reference = same;
      survives = survives;
      commit = λ clean. putting.keeps_commit sql params (state g old.conn.now) (state g new.conn.now) r (runs clean (inside clean));
      does = λ clean. does (runs clean (inside clean));
      cause = λ clean up. fails up (runs clean (inside clean));
    }

    -- a query
    pub asked : {Does : Vec Row Global → Type 0} {Own : LogFault → Type 0} (sql : List ℕ) (params : Row) (r : Result (Vec Row Global) Error)
        → IsAsked sql params r
        → (old.conn.now.in_transaction ≡ true → IfOk r (λ rows. Shown sql params (state g old.conn.now) (state g new.conn.now) rows.items) → IfOk r Does)
        → (old.conn.now.in_transaction ≡ true → IsOpen g old.conn.now → IfErr r (λ e. FailsToQuery sql params (state g old.conn.now) (state g new.conn.now) e
        ⊎ IsTooLate sql params (state g old.conn.now) (state g new.conn.now) e)
        → IfErr r (λ e. IsCaused (state g old.conn.now) (state g new.conn.now) Own (fault_of e)))
        → InLog g old new r Does Own
    asked sql params r it does fails = record {
      same_reference = same;
      survives = survives;
      commit = λ clean. queries.keeps_commit sql params (state g old.conn.now) (state g new.conn.now) (inside clean) r (it.ok clean) (it.err clean);
      does = λ clean. does (inside clean) (it.ok clean);
      cause = λ clean up. fails (inside clean) up (it.err clean);
    }
