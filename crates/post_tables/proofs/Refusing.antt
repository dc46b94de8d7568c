-- Why a query over the tables is refused: an allocation failed, or it would have gone past the limit on its steps.
use Rattle.std.proofs.Common.{◌≡◌, ◌≢◌, inl, inr, ℕ, List, [], true, false, Ok, Err, Result, IfErr, length, append-nil, sym, ap, subst, subst₂, ◌∙◌, arith}
use Rattle.std.proofs.Common.{true≢false}
use Rattle.std.specs.Prelude.{nat_le}
use Rattle.std.proofs.lemmas.Bool.{leb-true}
use Rattle.sqlite.specs.Order.{Row}
use Rattle.sqlite.specs.Query.{Query}
use Rattle.sqlite.specs.Effect.{RefusesToRead}
use Rattle.sqlite.specs.declared.error.Error.{Error}
use Rattle.sqlite.specs.declared.error.Error.TheVariants.{SqliteFailure}
use Rattle.sqlite.specs.declared.error.ErrorCode.TheVariants as code
use Rattle.sqlite.specs.Tree.{Trees}
use Rattle.sqlite.specs.Command.TheVariants.{Select}
use Rattle.sqlite_trees.specs.declared.memory.MemStore.{MemStore}
use Rattle.sqlite_trees.specs.declared.error.StoreError.{StoreError}
use Rattle.sqlite_trees.specs.declared.error.StoreError.TheVariants.{OutOfMemory, Io, Corrupt, Full, Broken, Unstorable}
use Rattle.sqlite_sql.specs.Program.{QueryOverflows}
use Rattle.sqlite_resolve.specs.declared.compiled.Compiled.{Compiled}
use Rattle.sqlite_resolve.specs.declared.error.CompileError.{CompileError}
use Rattle.sqlite_typing.specs.Types.{accepts_program}
use Rattle.sqlite.specs.Held.{Held, state}
use Rattle.sqlite.specs.Steps.{over_memory}
use Rattle.sqlite.specs.Listing.{understood, reads_listing, IsSourceOf}
use Rattle.sqlite.specs.State.{Fails, HasCause, IsNotRun, IsNoStatement, FailsToQuery, store_error}
use Rattle.sqlite.proofs.Callers.{IsPlain, command_of}
use Rattle.sqlite.specs.Reading.{IsReadError}
use Rattle.sqlite_value.specs.declared.value.Value.{Value}
use Rattle.post_tables.specs.Schema.{site_schema}
use Rattle.post_tables.specs.Reading.{IsStopped}
use Rattle.post_tables.specs.Stored.{IsSite}

abbrev pub no_memory : Error
no_memory = SqliteFailure code.OutOfMemory

-- the text is one statement, with this many parameters
abbrev pub IsWhole : List ℕ → ℕ → Result Compiled CompileError → Type 0
IsWhole sql count (Ok c) = (nat_le (length sql) c.tail ≡ true) × (count ≡ length c.names)
IsWhole sql count (Err e) = ⊥

-- what is known of a query over the tables, whatever they hold
pub record IsSafe (sql : List ℕ) (given : Row) : Type 0 where
  pub query : Query
  pub names : List (List ℕ)
  pub is : command_of (understood site_schema sql) ≡ Select (record { lets = []; body = query }) names
  pub unlisted : reads_listing site_schema sql ≡ false
  pub plain : IsPlain (understood site_schema sql)
  pub whole : IsWhole sql (length given) (understood site_schema sql)
  pub typed : accepts_program site_schema [] query given ≡ true
  pub sums : (db : Trees) → ¬ QueryOverflows query db given

module _ (old new : Held MemStore) where
  -- a store in memory has no faults and is never shut
  store_failed : (e : Error) → Fails (state over_memory old) (state over_memory new) ⊥ e → e ≡ no_memory
  store_failed e h = by h.0 h.1 h.2
    where
      by : (cause : StoreError) → e ≡ store_error cause → HasCause (state over_memory old) (state over_memory new) ⊥ cause → e ≡ no_memory
      by OutOfMemory is cause = is
      by Io is cause = absurd (omega (arith, cause))
      by Corrupt is cause = absurd (omega (arith, cause))
      by Full is cause = absurd (omega (arith, cause))
      by Broken is cause = absurd (true≢false cause)
      by Unstorable is cause = absurd cause

  module _ (sql : List ℕ) (given : Row) (safe : IsSafe sql given) (has : old.schema ≡ site_schema) where
    understood_is : understood old.schema sql ≡ understood site_schema sql
    understood_is = ap (λ s. understood s sql) has

    a_statement : (e : Error) → ¬ IsNoStatement (state over_memory old) sql given e
    a_statement e (inl none) = subst IsPlain (sym understood_is ∙ none.1) safe.plain
    a_statement e (inr some) =
        let known : understood site_schema sql ≡ Ok some.0 = sym understood_is ∙ some.1 in
        let whole = subst (IsWhole sql (length given)) known safe.whole in
        let bare = subst IsPlain known safe.plain in
        elim some.2 [
          | inl longer ↦ longer.0 (leb-true _ _ whole.0)
          | inr other ↦ elim other [ inl fewer ↦ fewer.0 whole.1 | inr timed ↦ timed.0 bare.1 ]
        ]

    not_run : (e : Error) → IsNotRun (state over_memory old) (state over_memory new) sql given e → e ≡ no_memory
    unfolding IsNotRun
    not_run e (inl refused) = absurd (a_statement e refused.0)
    not_run e (inr broke) = store_failed e broke

    read : (e : Error) → RefusesToRead old.step_limit (Select (record { lets = []; body = safe.query }) safe.names)
        (record { schema = site_schema; trees = (state over_memory old).now.trees }) given e → IsStopped old.step_limit e
    read e (inl mismatch) = absurd (true≢false (sym safe.typed ∙ mismatch.1))
    read e (inr (inl sum)) = absurd (safe.sums _ sum.1)
    read e (inr (inr late)) = inr late

    pub stopped : (e : Error) → FailsToQuery sql given (state over_memory old) (state over_memory new) e → IsStopped old.step_limit e
    unfolding FailsToQuery
    stopped e (inl none) = inl (not_run e none)
    stopped e (inr h) =
        let known : Ok h.0 ≡ understood site_schema sql = sym h.1.is ∙ understood_is in
        let bare = subst IsPlain (sym known) safe.plain in
        let it = rw (bare.0, bare.1, append-nil given) at h.2 in
        let db : it.0 ≡ (state over_memory old).now = subst (λ b. IsSourceOf b (state over_memory old).now it.0)
        (ap (λ s. reads_listing s sql) has ∙ safe.unlisted) it.1 in
        let same : it.0 ≡ record { schema = site_schema; trees = (state over_memory old).now.trees } = db
        ∙ ap (λ s. record { schema = s; trees = (state over_memory old).now.trees }) has in
        read e (subst₂ (λ k d. RefusesToRead old.step_limit k d given e) (ap command_of known ∙ safe.is) same it.2)

-- a result of a query
pub read_stopped : {A : Type 0} (old new : Held MemStore) (sql : List ℕ) (given : Row) → IsSafe sql given → IsSite old → (r : Result A Error)
    → IfErr r (FailsToQuery sql given (state over_memory old) (state over_memory new)) → IfErr r (IsStopped old.step_limit)
read_stopped old new sql given safe is (Ok a) err = tt
read_stopped old new sql given safe is (Err e) err = stopped old new sql given safe is.holds.schema_is e err

-- ---- columns

-- a column that can be read is refused only if an allocation failed
pub column_memory : (R : Type 0) (at : ℕ) (v : Value) (e : Error) → IsReadError at v e → (e ≢ no_memory → ¬ R) → R → e ≡ no_memory
column_memory R at v e (inl is) unread can = absurd (unread (λ same. let clash = sym is ∙ same in cc) can)
column_memory R at v e (inr (inl is)) unread can = absurd (unread (λ same. let clash = sym is ∙ same in cc) can)
column_memory R at v e (inr (inr (inl is))) unread can = absurd (unread (λ same. let clash = sym is ∙ same in cc) can)
column_memory R at v e (inr (inr (inr (inl is)))) unread can = absurd (unread (λ same. let clash = sym is ∙ same in cc) can)
column_memory R at v e (inr (inr (inr (inr is)))) unread can = is
