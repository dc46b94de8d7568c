-- What a query within a transaction leaves: nothing is committed.
use Rattle.std.proofs.Common.{◌≡◌, inl, inr, ℕ, List, true, cond, Option, None, Some, append-nil, ap, sym, subst, ◌∙◌}
use Rattle.sqlite.specs.Order.{Row}
use Rattle.sqlite.specs.declared.error.Error.{Error}
use Rattle.sqlite_schema.specs.declared.command.Returning.{Returning}
use Rattle.sqlite_resolve.specs.declared.compiled.Compiled.{Compiled}
use Rattle.sqlite.specs.Listing.{understood}
use Rattle.sqlite.specs.Schema.{Schema}
use Rattle.sqlite.proofs.Callers.{IsPlain}
use Rattle.sqlite.specs.State.{State, IsNotRun, IsUnchanged, KeepsCommit, FailsToQuery, FailsToShow, Shown, ShowsRows}
use Rattle.command_log.proofs.Putting.{same_commit, back_commit}

module _ (old new : State) (inside : old.in_transaction ≡ true) where
  not_run : (sql : List ℕ) (params : Row) (e : Error) → IsNotRun old new sql params e → KeepsCommit old new
  unfolding IsNotRun
  not_run sql params e (inl refused) = same_commit old new refused.1
  not_run sql params e (inr broke) = back_commit old new broke.3

  showing : (sql : List ℕ) (c : Compiled) (params : Row) (e : Error) (what : Option Returning) → FailsToShow old new sql c params e what → KeepsCommit old new
  showing sql c params e None h = same_commit old new h.3
  showing sql c params e (Some what) (inl back) = same_commit old new back.1
  showing sql c params e (Some what) (inr broke) = back_commit old new broke.3

  pub unanswered : (sql : List ℕ) (params : Row) (e : Error) → FailsToQuery sql params old new e → KeepsCommit old new
  unfolding FailsToQuery
  unanswered sql params e (inl none) = not_run sql params e none
  unanswered sql params e (inr ran) = showing sql ran.0 _ e ran.0.returning ran.2

  answers : (sql : List ℕ) (c : Compiled) (params : Row) (rows : List Row) (what : Option Returning) → ShowsRows old new sql c params rows what
      → KeepsCommit old new
  answers sql c params rows None h = same_commit old new h.3
  answers sql c params rows (Some what) h = record {
    was_open = λ up. h.1.shown.was_open;
    committed = λ up. h.1.shown.committed_is ∙ ap (λ b. cond b old.committed new.now) inside;
  }

  pub answered : (sql : List ℕ) (params : Row) (rows : List Row) → Shown sql params old new rows → KeepsCommit old new
  unfolding Shown
  answered sql params rows h = answers sql h.0 _ rows h.0.returning h.2

  was_open : (sql : List ℕ) (c : Compiled) (params : Row) (rows : List Row) (what : Option Returning) → ShowsRows old new sql c params rows what → old.is_open
      ≡ true
  was_open sql c params rows None h = h.3.0.was_open
  was_open sql c params rows (Some what) h = h.1.shown.was_open

  pub answered_open : (sql : List ℕ) (params : Row) (rows : List Row) → Shown sql params old new rows → old.is_open ≡ true
  unfolding Shown
  answered_open sql params rows h = was_open sql h.0 _ rows h.0.returning h.2

-- a query that returns rows changes nothing
pub unchanged : (schema : Schema) (sql : List ℕ) (params : Row) → IsPlain (understood schema sql) → (old new : State) → old.now.schema ≡ schema
    → (rows : List Row) → Shown sql params old new rows
    → IsUnchanged old new
unfolding Shown
unchanged schema sql params plain old new has rows h =
    let known = sym h.1.is ∙ ap (λ s. understood s sql) has in
    let bare = subst IsPlain (sym known) plain in
    (rw (bare.0, bare.1, append-nil params) at h.2).3
