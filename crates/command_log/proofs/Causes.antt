-- Why a statement of the log fails, by what the database says of it.
use Rattle.std.proofs.Common.{◌≡◌, ◌⊎◌, inl, inr, ℕ, ◌≤◌, List, [], true, false, ◌&&◌, ◌||◌, Ok, Err, Some, None, length, append-nil, sym, ap, subst, subst₂}
use Rattle.std.proofs.Common.{◌∙◌, arith}
use Rattle.std.proofs.Common.{true≢false}
use Rattle.std.specs.Prelude.{IsSome, IsTrue}
use Rattle.std.proofs.lemmas.Bool.{leb-true}
use Rattle.sqlite.specs.Order.{Row}
use Rattle.sqlite.specs.Query.{Query}
use Rattle.sqlite.specs.Source.{Source}
use Rattle.sqlite_schema.specs.declared.program.Program.{Program}
use Rattle.sqlite.specs.Effect.{Database, RefusesToRead}
use Rattle.sqlite.specs.declared.error.Error.{Error}
use Rattle.sqlite_schema.specs.declared.command.Command.{Command}
use Rattle.sqlite.specs.Command.TheVariants.{Select, Insert, Delete}
use Rattle.sqlite_trees.specs.declared.error.StoreError.{StoreError}
use Rattle.sqlite_trees.specs.declared.error.StoreError.TheVariants.{OutOfMemory, Io, Corrupt, Full, Broken, Unstorable}
use Rattle.sqlite_sql.specs.Program.{QueryOverflows}
use Rattle.sqlite_typing.specs.Types.{accepts_program}
use Rattle.sqlite.specs.Does.{Does}
use Rattle.sqlite.specs.Listing.{understood, reads_listing, IsSourceOf}
use Rattle.sqlite.specs.State.{State, Fails, HasCause, IsNotRun, IsNoStatement, IsMisplaced, IsUnchanged, MayChange, FailsToQuery, IsTooLate, EndsScope}
use Rattle.sqlite.specs.State.{Escapes, ExecutesIn, ExecutesInside, mode_of, shows_rows, is_pragma, store_error}
use Rattle.sqlite.specs.Effect.{is_query}
use Rattle.sqlite.specs.Steps.{FailsToCommit}
use Rattle.sqlite.proofs.Callers.{IsPlain, command_of, statement_of}
use Rattle.command_log.specs.declared.fault.LogFault.{LogFault}
use Rattle.command_log.specs.declared.fault.LogFault.TheVariants as fault
use Rattle.command_log.specs.Table.{log_schema}
use Rattle.command_log.proofs.Texts.{IsWhole}
use Rattle.command_log.specs.Faults.{IsCaused, fault_of}

abbrev pub Own : Type 1
Own = LogFault → Type 0

-- ---- what holds of any call

-- a failure of the store, if only the call's own row can be too big
pub store_fault : (old new : State) → IsTrue old.is_open → (P : Own) (too_big : Type 0) → (too_big → P fault.TooBig) → (e : Error) → Fails old new too_big e
    → IsCaused old new P (fault_of e)
store_fault old new up P too_big big e h = subst (λ x. IsCaused old new P (fault_of x)) (sym h.1) (by h.0 h.2)
  where
    by : (cause : StoreError) → HasCause old new too_big cause → IsCaused old new P (fault_of (store_error cause))
    by OutOfMemory h = tt
    by Io h = h
    by Corrupt h = h
    by Full h = h
    by Broken h = absurd (true≢false (sym up ∙ h))
    by Unstorable h = big h

-- the same cause over a longer time
pub caused_longer : (first old new last : State) (P Q : Own) → ((f : LogFault) → P f → Q f) → first.faults ≤ old.faults → new.faults ≤ last.faults
    → first.step_limit ≡ old.step_limit → (f : LogFault) → IsCaused old new P f → IsCaused first last Q f
caused_longer first old new last P Q own low high limit fault.OutOfMemory h = tt
caused_longer first old new last P Q own low high limit fault.Damaged h = omega arith
caused_longer first old new last P Q own low high limit fault.DiskFull h = omega arith
caused_longer first old new last P Q own low high limit fault.Disk h = omega arith
caused_longer first old new last P Q own low high limit fault.Shut h = own fault.Shut h
caused_longer first old new last P Q own low high limit fault.Interrupted h = subst IsSome (sym limit) h
caused_longer first old new last P Q own low high limit fault.NotALog h = own fault.NotALog h
caused_longer first old new last P Q own low high limit fault.Busy h = own fault.Busy h
caused_longer first old new last P Q own low high limit fault.CannotOpen h = own fault.CannotOpen h
caused_longer first old new last P Q own low high limit fault.TooBig h = own fault.TooBig h
caused_longer first old new last P Q own low high limit fault.NumbersUsedUp h = own fault.NumbersUsedUp h
caused_longer first old new last P Q own low high limit fault.NotText h = own fault.NotText h
caused_longer first old new last P Q own low high limit fault.Store h = own fault.Store h
caused_longer first old new last P Q own low high limit (fault.Altered n) h = own (fault.Altered n) h
caused_longer first old new last P Q own low high limit (fault.DamagedTail m n) h = own (fault.DamagedTail m n) h
caused_longer first old new last P Q own low high limit fault.OlderLog h = own fault.OlderLog h

-- a commit
pub commit_fault : (old new : State) → IsTrue old.is_open → (P : Own) (e : Error) → old.in_transaction ≡ true → FailsToCommit old new e
    → IsCaused old new P (fault_of e)
commit_fault old new up P e inside (inl broke) = store_fault old new up P ⊥ (λ h. absurd h) e broke
commit_fault old new up P e inside (inr late) = absurd (true≢false (sym inside ∙ late.1))

-- ---- a statement over the table of a log

module _ (sql : List ℕ) (given : Row) (plain : IsPlain (understood log_schema sql)) (whole : IsWhole sql (length given) (understood log_schema sql))
    (old new : State) (up : IsTrue old.is_open)
    (has : old.now.schema ≡ log_schema) where
  understood_is : understood old.now.schema sql ≡ understood log_schema sql
  understood_is = ap (λ s. understood s sql) has

  a_statement : (e : Error) → ¬ IsNoStatement old sql given e
  a_statement e (inl none) = subst IsPlain (sym understood_is ∙ none.1) plain
  a_statement e (inr some) =
      let known : understood log_schema sql ≡ Ok some.0 = sym understood_is ∙ some.1 in
      let one = subst (IsWhole sql (length given)) known whole in
      let bare = subst IsPlain known plain in
      elim some.2 [
        | inl longer ↦ longer.0 (leb-true _ _ one.0)
        | inr other ↦ elim other [ inl fewer ↦ fewer.0 one.1 | inr timed ↦ timed.0 bare.1 ]
      ]

  not_run : (P : Own) (e : Error) → IsNotRun old new sql given e → IsCaused old new P (fault_of e)
  unfolding IsNotRun
  not_run P e (inl refused) = absurd (a_statement e refused.0)
  not_run P e (inr broke) = store_fault old new up P ⊥ (λ h. absurd h) e broke

  -- ---- a query

  module _ (query : Query) (names : List (List ℕ)) (is : command_of (understood log_schema sql) ≡ Select (record { lets = []; body = query }) names)
      (unlisted : reads_listing log_schema sql ≡ false)
      (typed : accepts_program log_schema [] query given ≡ true) (sums : (db : _) → ¬ QueryOverflows query db given) (P : Own) where
    reads : (e : Error) (db : Database) → db.schema ≡ log_schema → RefusesToRead old.step_limit (Select (record { lets = []; body = query }) names) db given e
        → IsCaused old new P (fault_of e)
    reads e db schema (inl mismatch) = absurd (true≢false (sym typed ∙ ap (λ s. accepts_program s [] query given) (sym schema) ∙ mismatch.1))
    reads e db schema (inr (inl sum)) = absurd (sums _ sum.1)
    reads e db schema (inr (inr late)) = subst (λ x. IsCaused old new P (fault_of x)) (sym late.0) late.1

    query_fault : (e : Error) → FailsToQuery sql given old new e → IsCaused old new P (fault_of e)
    unfolding FailsToQuery
    query_fault e (inl none) = not_run P e none
    query_fault e (inr h) =
        let known : Ok h.0 ≡ understood log_schema sql = sym h.1.is ∙ understood_is in
        let bare = subst IsPlain (sym known) plain in
        let it = rw (bare.0, bare.1, append-nil given) at h.2 in
        let db : it.0 ≡ old.now = subst (λ b. IsSourceOf b old.now it.0) (ap (λ s. reads_listing s sql) has ∙ unlisted) it.1 in
        reads e it.0 (ap (λ (d : Database). d.schema) db ∙ has) (subst (λ k. RefusesToRead old.step_limit k it.0 given e) (ap command_of known ∙ is) it.2)

    -- within a transaction
    pub query_failed : (e : Error) → old.in_transaction ≡ true → FailsToQuery sql given old new e ⊎ IsTooLate sql given old new e
        → IsCaused old new P (fault_of e)
    query_failed e inside (inl failed) = query_fault e failed
    query_failed e inside (inr late) = absurd (true≢false (sym inside ∙ late.3))

  -- ---- a write

  abbrev IsEdit : Command → Type 0
  IsEdit k = ((at : ℕ) × (from : Source) × (k ≡ Insert at from)) ⊎ ((at : ℕ) × (q : Program) × (k ≡ Delete at q))

  shows_none : (k : Command) → IsEdit k → (is_query k || (true && (is_pragma k || false))) ≡ false
  shows_none k (inl it) = ap (λ x. is_query x || (true && (is_pragma x || false))) it.2
  shows_none k (inr it) = ap (λ x. is_query x || (true && (is_pragma x || false))) it.2

  put_placed : (at : ℕ) (from : Source) (e : Error) → ¬ IsMisplaced old (Insert at from) e
  put_placed at from e (inl (same, inl begins)) = absurd (let clash = begins.0 in cc)
  put_placed at from e (inl (same, inr (inl commits, out))) = absurd cc
  put_placed at from e (inl (same, inr (inr rolls, out))) = absurd cc
  put_placed at from e (inr (same, name, inl releases, none)) = absurd cc
  put_placed at from e (inr (same, name, inr rolls, none)) = absurd cc

  cut_placed : (at : ℕ) (q : Program) (e : Error) → ¬ IsMisplaced old (Delete at q) e
  cut_placed at q e (inl (same, inl begins)) = absurd (let clash = begins.0 in cc)
  cut_placed at q e (inl (same, inr (inl commits, out))) = absurd cc
  cut_placed at q e (inl (same, inr (inr rolls, out))) = absurd cc
  cut_placed at q e (inr (same, name, inl releases, none)) = absurd cc
  cut_placed at q e (inr (same, name, inr rolls, none)) = absurd cc

  placed : (k : Command) (e : Error) → IsEdit k → ¬ IsMisplaced old k e
  placed k e (inl it) h = put_placed it.0 it.1 e (subst (λ x. IsMisplaced old x e) it.2 h)
  placed k e (inr it) h = cut_placed it.0 it.1 e (subst (λ x. IsMisplaced old x e) it.2 h)

  put_stays : (at : ℕ) (from : Source) → ¬ Escapes 0 old (Insert at from)
  put_stays at from (inl (inl commits)) = absurd cc
  put_stays at from (inl (inr rolls)) = absurd cc
  put_stays at from (inr (name, inl releases, held)) = absurd cc
  put_stays at from (inr (name, inr rolls, held)) = absurd cc

  cut_stays : (at : ℕ) (q : Program) → ¬ Escapes 0 old (Delete at q)
  cut_stays at q (inl (inl commits)) = absurd cc
  cut_stays at q (inl (inr rolls)) = absurd cc
  cut_stays at q (inr (name, inl releases, held)) = absurd cc
  cut_stays at q (inr (name, inr rolls, held)) = absurd cc

  stays : (k : Command) → IsEdit k → ¬ Escapes 0 old k
  stays k (inl it) h = put_stays it.0 it.1 (subst (Escapes 0 old) it.2 h)
  stays k (inr it) h = cut_stays it.0 it.1 (subst (Escapes 0 old) it.2 h)

  module _ (command : Command) (edit : IsEdit command) (is : command_of (understood log_schema sql) ≡ command) (P : Own)
      (refused : (e : Error) → Does old.step_limit (mode_of old) given old.now (statement_of sql (understood log_schema sql)) None command (Err (Some e))
      → IsCaused old new P (fault_of e))
      (too_big : Does old.step_limit (mode_of old) given old.now (statement_of sql (understood log_schema sql)) None command (Err None) → P fault.TooBig) where
    abbrev Ends : Type 0 → Error → Command → List ℕ → Type 0
    Ends change e k text = ((IsMisplaced old k e ⊎ (change × Does old.step_limit (mode_of old) given old.now text None k (Err (Some e)))) × IsUnchanged old new)
        ⊎ Fails old new (Does old.step_limit (mode_of old) given old.now text None k (Err None)) e

    ended : (change : Type 0) (e : Error) → Ends change e command (statement_of sql (understood log_schema sql)) → IsCaused old new P (fault_of e)
    ended change e (inl (inl misplaced, same)) = absurd (placed command e edit misplaced)
    ended change e (inl (inr does, same)) = refused e does.1
    ended change e (inr broke) = store_fault old new up P _ too_big e broke

    ran : (e : Error) → ExecutesIn false sql given old new (Err e) → IsCaused old new P (fault_of e)
    unfolding ExecutesIn
    ran e (inl none) = not_run P e none
    ran e (inr h) =
        let known : Ok h.0 ≡ understood log_schema sql = sym h.1.is ∙ understood_is in
        let bare = subst IsPlain (sym known) plain in
        let command_is = ap command_of known ∙ is in
        let shows : shows_rows false h.0 ≡ false = rw (bare.0, command_is) (shows_none command edit) in
        ended (MayChange (record h.0 { returning = None })) e (subst₂ (Ends (MayChange (record h.0 { returning = None })) e) command_is
        (ap (statement_of sql) known) (rw (bare.0, bare.1, append-nil given) at (rw shows at h.2)))

    pub write_failed : (e : Error) → ExecutesInside 0 sql given old new (Err e) → IsCaused old new P (fault_of e)
    unfolding EndsScope
    write_failed e (inl it) = ran e it.0
    write_failed e (inr ends) =
        let known : Ok ends.0.0 ≡ understood log_schema sql = sym ends.0.1.is ∙ understood_is in
        absurd (stays command edit (subst (Escapes 0 old) (ap command_of known ∙ is) ends.0.2))
