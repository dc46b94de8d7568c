-- What a connection in memory is left as.
use Rattle.std.proofs.Common.{◌≡◌, inl, inr, ℕ, List, false, cond, Some, None, Err, refl, sym, ap, subst, ◌∙◌}
use Rattle.std.proofs.lemmas.Bool.{cases_Bool}
use Rattle.sqlite.specs.Order.{Row}
use Rattle.sqlite.specs.declared.error.Error.{Error}
use Rattle.sqlite_trees.specs.declared.memory.MemStore.{MemStore}
use Rattle.sqlite.specs.Held.{Held, state}
use Rattle.sqlite.specs.Steps.{over_memory}
use Rattle.sqlite.specs.State.{Executes, ExecutesIn, IsNotRun, IsUnchanged, Fails, FailsToQuery, FailsToShow, Shown, ShowsRows, shows_rows}
use Rattle.sqlite.specs.State.{Writes}
use Rattle.sqlite_schema.specs.declared.command.Returning.{Returning}
use Rattle.sqlite_schema.specs.declared.command.Command.{Command}
use Rattle.sqlite_resolve.specs.declared.compiled.Compiled.{Compiled}
use Rattle.sqlite.specs.Given.{IsPlain}
use Rattle.sqlite.specs.Listing.{understood}
use Rattle.std.proofs.Common.{Option}
use Rattle.post_tables.specs.Stored.{IsIdle, IsKept}

module _ (old new : Held MemStore) (idle : IsIdle old) where
  pub same : IsUnchanged (state over_memory old) (state over_memory new) → IsKept old new
  same h = record { now = h.0.now_is; idle = record { autocommit = h.0.mode ∙ idle.autocommit; settled = h.0.committed_is ∙ idle.settled ∙ sym h.0.now_is } }

  pub failed : (Big : Type 0) (e : Error) → Fails (state over_memory old) (state over_memory new) Big e → IsKept old new
  failed Big e h =
      let back = h.3.undone refl in
      record { now = back.0 ∙ idle.settled; idle = record { autocommit = h.3.autocommit; settled = back.1 ∙ sym back.0 } }

  not_run : (sql : List ℕ) (params : Row) (e : Error) → IsNotRun (state over_memory old) (state over_memory new) sql params e → IsKept old new
  unfolding IsNotRun
  not_run sql params e (inl refused) = same refused.1
  not_run sql params e (inr broke) = failed _ e broke

  -- a statement that returns an error changes nothing
  pub refused : (sql : List ℕ) (params : Row) (e : Error) → Executes sql params (state over_memory old) (state over_memory new) (Err e) → IsKept old new
  unfolding ExecutesIn
  refused sql params e (inl none) = not_run sql params e none
  refused sql params e (inr ran) = elim (cases_Bool (shows_rows false ran.0)) [
    | inl shows ↦ same (rw shows at ran.2).1
    | inr runs ↦ elim (rw runs at ran.2) [ inl back ↦ same back.1 | inr broke ↦ failed _ e broke ]
  ]

  -- a write outside a transaction is committed
  pub wrote : (returning : Option Returning) (command : Command) (text : List ℕ) (params : Row) (count : ℕ)
      → Writes (state over_memory old) (state over_memory new) returning command text params count → IsIdle new
  wrote returning command text params count w = record {
    autocommit = w.shown.mode ∙ idle.autocommit;
    settled = w.shown.committed_is ∙ ap (λ b. cond b (state over_memory old).committed (state over_memory new).now) idle.autocommit;
  }

  -- ---- queries

  abbrev FailsOn : List ℕ → Compiled → Row → Error → Option Returning → Type 0
  FailsOn sql c params e what = FailsToShow (state over_memory old) (state over_memory new) sql c params e what

  showing : (sql : List ℕ) (c : Compiled) (params : Row) (e : Error) (what : Option Returning) → FailsOn sql c params e what → IsKept old new
  showing sql c params e None h = same h.3
  showing sql c params e (Some what) (inl back) = same back.1
  showing sql c params e (Some what) (inr broke) = failed _ e broke

  pub unanswered : (sql : List ℕ) (params : Row) (e : Error) → FailsToQuery sql params (state over_memory old) (state over_memory new) e → IsKept old new
  unfolding FailsToQuery
  unanswered sql params e (inl none) = not_run sql params e none
  unanswered sql params e (inr ran) = showing sql ran.0 _ e ran.0.returning ran.2

  answers : (sql : List ℕ) (c : Compiled) (params : Row) (rows : List Row) (what : Option Returning) → what ≡ None
      → ShowsRows (state over_memory old) (state over_memory new) sql c params rows what → IsKept old new
  answers sql c params rows None none h = same h.3
  answers sql c params rows (Some what) none h = absurd cc

  pub answered : (sql : List ℕ) (params : Row) (rows : List Row) → IsPlain (understood (state over_memory old).now.schema sql)
      → Shown sql params (state over_memory old) (state over_memory new) rows → IsKept old new
  unfolding Shown
  answered sql params rows plain h = answers sql h.0 _ rows h.0.returning (subst IsPlain h.1.is plain).0 h.2
