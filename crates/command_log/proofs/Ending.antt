-- What a call on the log leaves, by what its transaction did and how that ended.
use Rattle.std.proofs.Common.{◌≡◌, inl, inr, ℕ, ℤ, Option, List, [], ◌++◌, map, true, false, Ok, Err, Result, OnOk, OnErr, IfErr, refl, sym, ap, subst, ◌∙◌, arith}
use Rattle.std.specs.Prelude.{IsTrue, IsErrAnd}
use Rattle.std.proofs.lemmas.Result.{IfOk-weaker, IfErr-weaker}
use Rattle.sqlite.specs.Order.{Row}
use Rattle.sqlite.specs.Store.{Ghosts}
use Rattle.sqlite.specs.Effect.{Database, IsDatabase}
use Rattle.sqlite.specs.State.{HasCleanDisk, IsUnchanged, KeepsCommit, IsRolledBack, Shows, KeepsCounts, Survives}
use Rattle.sqlite.specs.Steps.{FailsToCommit}
use Rattle.sqlite.specs.Held.{Held, state}
use Rattle.sqlite.specs.declared.error.Error.{Error}
use Rattle.sqlite.specs.declared.transaction.Transaction.{Transaction}
use Rattle.sqlite.proofs.StateLemmas.{survives_then}
use Rattle.sqlite.proofs.Callers.{survives_begin}
use Rattle.command_log.specs.declared.fault.LogFault.{LogFault}
use Rattle.command_log.specs.Faults.{IsCaused, fault_of}
use Rattle.sha2.specs.Sha256.{sha256}
use Rattle.command_log.specs.Digests.{digest_of, digests_after, digests_of}
use Rattle.command_log.proofs.Digests.{digests_more}
use Rattle.command_log.specs.Lines.{HoldsLog, HoldsTable, IsOpen, IsIdle, IsLog, IsTabled, AreSealed, Makes, Puts, PutsAny, PutsAnyAt, IsReplaced, GivesRows, lines_of}
use Rattle.command_log.specs.Lines.{lines_in, rows_of, digest_in}
use Rattle.command_log.specs.Inside.{IsInside, InLog, ReadsRows}
use Rattle.command_log.proofs.Causes.{caused_longer, commit_fault}
use Rattle.command_log.proofs.States.{ShutsIfDirty, clean_of, IsKept, kept_log, kept_lines, begun, rolled_back, not_committed, commits_then, no_rows}
use Rattle.command_log.proofs.States.{settles, settled_lines, kept_by, read_ends, read_survives}

-- ---- calls on a transaction

module _ {S : Type 0} (g : Ghosts S) where
  -- a transaction of a log that has just begun
  pub begins : (old : Held S) (tx : Transaction S) → IsTabled g old → tx.conn.now ≡ begun g old → IsInside g tx
  begins old tx log is = record {
    inside = λ clean. ap (λ (h : Held S). h.in_transaction) is;
    holds = subst (λ h. IsOpen g h → HoldsTable (state g h).now) (sym is) log.holds;
  }

  -- the rows that a transaction which has just begun has read are those of the log
  pub shown_rows : {place : Option ℤ} {asked : ℤ} {rows : List Row} (old : Held S) (tx last : Transaction S) → tx.conn.now ≡ begun g old → (limit : ℤ)
      → asked ≡ limit → ReadsRows g tx.conn.now last.conn.now place asked rows → GivesRows g old place limit rows
  shown_rows {place = place} {asked = asked} {rows = rows} old tx last is limit same reads =
      subst (λ k. GivesRows g old place k rows) same (subst (λ h. GivesRows g h place asked rows) is reads.are)

  -- appending lines does not end it
  pub stays_inside : {Own : LogFault → Type 0} → ShutsIfDirty g → (first mid : Transaction S) (digest : List ℕ) (more : List (List ℕ)) (u : Unit {0}) → IsInside g first
      → InLog g first mid (Ok u) (λ _. PutsAny g first.conn.now mid.conn.now digest more) Own → IsInside g mid
  stays_inside law first mid digest more u before it = record {
    inside = λ clean.
        let early : HasCleanDisk (state g first.conn.now) = omega (arith, it.survives.clean, clean) in
        begun_by (it.does clean) (before.inside early);
    holds = λ up. held_by (it.does (clean_of g law mid.conn.now up)) up;
  }
    where
      begun_by : PutsAny g first.conn.now mid.conn.now digest more → first.conn.now.in_transaction ≡ true → mid.conn.now.in_transaction ≡ true
      begun_by (inl none) = subst (λ (h : Held S). h.in_transaction ≡ true) (sym none.1)
      begun_by (inr put) = λ inside. put.inside

      held_by : PutsAny g first.conn.now mid.conn.now digest more → IsOpen g mid.conn.now → HoldsTable (state g mid.conn.now).now
      held_by (inl none) = subst (λ h. IsOpen g h → HoldsTable (state g h).now) (sym none.1) before.holds
      held_by (inr put) = λ up. put.holds

  -- what stays true over two calls, of which the first has succeeded
  module _ (first mid last : Transaction S) (two : Survives (state g mid.conn.now) (state g last.conn.now) (λ _. ⊥)) where
    -- a disk that is clean after the second call was clean before it
    earlier : HasCleanDisk (state g last.conn.now) → HasCleanDisk (state g mid.conn.now)
    earlier clean = omega (arith, two.clean, clean)

    -- a crash leaves what it could leave before the first
    both_survive : Survives (state g first.conn.now) (state g mid.conn.now) (λ _. ⊥) → Survives (state g first.conn.now) (state g last.conn.now) (λ _. ⊥)
    both_survive one = survives_then (state g first.conn.now) (state g mid.conn.now) (state g last.conn.now) _ _ (λ _. ⊥) (λ _ db none. none)
        (λ _ db none. none) one two

    -- nothing is committed
    both_commit : (HasCleanDisk (state g mid.conn.now) → KeepsCommit (state g first.conn.now) (state g mid.conn.now))
        → (HasCleanDisk (state g last.conn.now) → KeepsCommit (state g mid.conn.now) (state g last.conn.now))
        → HasCleanDisk (state g last.conn.now) → KeepsCommit (state g first.conn.now) (state g last.conn.now)
    both_commit one later clean = commits_then (state g first.conn.now) (state g mid.conn.now) (state g last.conn.now) (one (earlier clean)) (later clean)

  -- a call after one that has succeeded, if it succeeds too
  pub then_ok : {A B C : Type 0} {Before : A → Type 0} {Does : B → Type 0} {Did : C → Type 0} {First Own All : LogFault → Type 0}
      (first mid last : Transaction S) (a : A) (b : B) (c : C) → InLog g first mid (Ok a) Before First → InLog g mid last (Ok b) Does Own
      → (Before a → Does b → Did c) → InLog g first last (Ok c) Did All
  then_ok first mid last a b c one two both = record {
    same_reference = two.same_reference ∙ one.same_reference;
    survives = both_survive first mid last two.survives one.survives;
    commit = both_commit first mid last two.survives one.commit two.commit;
    does = λ clean. both (one.does (earlier first mid last two.survives clean)) (two.does clean);
    cause = λ clean up. tt;
  }

  -- and if it fails
  pub then_err : {A B : Type 0} {Before : A → Type 0} {Does : B → Type 0} {First Own All : LogFault → Type 0} (first mid last : Transaction S) (a : A)
      (e : Error) → InLog g first mid (Ok a) Before First → InLog g mid last (Err e) Does Own → (IsOpen g first.conn.now → Before a → IsOpen g mid.conn.now)
      → (Before a → (f : LogFault) → Own f → All f) → InLog g first last (Err e) Does All
  then_err {Own = Own} {All = All} first mid last a e one two opens owns = record {
    same_reference = two.same_reference ∙ one.same_reference;
    survives = both_survive first mid last two.survives one.survives;
    commit = both_commit first mid last two.survives one.commit two.commit;
    does = λ clean. tt;
    cause = λ clean up.
        let before = one.does (earlier first mid last two.survives clean) in
        caused_longer (state g first.conn.now) (state g mid.conn.now) (state g last.conn.now) (state g last.conn.now) Own All (owns before) one.survives.counts
        (omega arith) (sym one.survives.limit) (fault_of e) (two.cause clean (opens up before));
  }

  -- however it ends
  pub then_any : {A B : Type 0} {Before : A → Type 0} {Does Did : B → Type 0} {First Own All : LogFault → Type 0} (first mid last : Transaction S) (a : A)
      (r : Result B Error) → InLog g first mid (Ok a) Before First → InLog g mid last r Does Own → (IsOpen g first.conn.now → Before a → IsOpen g mid.conn.now)
      → (Before a → (b : B) → Does b → Did b) → (Before a → (f : LogFault) → Own f → All f) → InLog g first last r Did All
  then_any first mid last a (Ok b) one two opens both owns = then_ok first mid last a b b one two (λ before. both before b)
  then_any first mid last a (Err e) one two opens both owns =
      let it = then_err first mid last a e one two opens owns in
      record { same_reference = it.same_reference; survives = it.survives; commit = it.commit; does = λ clean. tt; cause = it.cause }

  -- a failure that is passed on
  pub passed_on : {A B : Type 0} {Does : A → Type 0} {Did : B → Type 0} {Own All : LogFault → Type 0} (old new : Transaction S) (e : Error)
      → InLog g old new (Err e) Does Own → ((f : LogFault) → Own f → All f) → (r : Result B Error) → IsErrAnd r (λ x. x ≡ e) → InLog g old new r Did All
  passed_on old new e it owns (Ok b) never = absurd never
  passed_on {Own = Own} {All = All} old new e it owns (Err x) same = record {
    same_reference = it.same_reference;
    survives = it.survives;
    commit = it.commit;
    does = λ clean. tt;
    cause = λ clean up. subst (λ y. IsCaused (state g old.conn.now) (state g new.conn.now) All (fault_of y)) (sym same)
        (caused_longer (state g old.conn.now) (state g old.conn.now) (state g new.conn.now) (state g new.conn.now) Own All owns (omega arith) (omega arith)
        refl (fault_of e) (it.cause clean up));
  }

-- ---- how a transaction ends

module _ {S : Type 0} (g : Ghosts S) where
  -- a transaction has left these lines alone
  pub record Fills (old new : Held S) (lines : List (List ℕ)) : Type 0 where
    pub was_open : IsOpen g old
    pub is_open : IsOpen g new
    pub inside : new.in_transaction ≡ true
    pub holds : HoldsLog (state g new).now
    pub sound : IsDatabase (state g new).now
    pub lines_are : lines_in (state g new).now.trees ≡ lines

  -- a table of no row is a log
  pub bare_log : (h : Held S) → HoldsTable (state g h).now → lines_in (state g h).now.trees ≡ [] → HoldsLog (state g h).now
  bare_log h table none = record { table = table; sealed = let rows = no_rows (rows_of g h) none in subst AreSealed (sym rows) refl }

  -- it has deleted all lines, and appended these
  pub fills : (old mid new : Held S) (number : ℤ) (lines : List (List ℕ)) → Makes g old mid → PutsAnyAt g number mid new (sha256 []) lines → Fills old new lines
  fills old mid new number lines made (inl none) = subst (λ h. Fills old h lines) (sym none.1) (record {
    was_open = made.was_open;
    is_open = made.is_open;
    inside = made.inside;
    holds = bare_log mid made.holds made.lines;
    sound = made.sound;
    lines_are = made.lines ∙ sym none.0;
  })
  fills old mid new number lines made (inr put) = record {
    was_open = made.was_open;
    is_open = put.is_open;
    inside = put.inside;
    holds = record {
      table = put.holds;
      sealed = put.digests ∙ ap (λ rows. map digest_in rows ++ digests_of lines) (no_rows (rows_of g mid) made.lines)
          ∙ ap digests_of (sym (put.lines ∙ ap (λ l. l ++ lines) made.lines));
    };
    sound = put.sound;
    lines_are = put.lines ∙ ap (λ l. l ++ lines) made.lines;
  }

  -- it has appended lines to those of the last commit
  pub fills_more : (old new : Held S) (digest : List ℕ) (more : List (List ℕ)) → IsLog g old → (IsOpen g old → digest ≡ digest_of (lines_of g old))
      → Puts g (begun g old) new digest more → Fills (begun g old) new (lines_of g old ++ more)
  fills_more old new digest more log is put =
      let settled : lines_in (state g old).now.trees ≡ lines_of g old = ap (λ (d : Database). lines_in d.trees) (sym (log.idle.settled put.was_open)) in
      let lines : lines_in (state g new).now.trees ≡ lines_of g old ++ more = put.lines ∙ ap (λ l. l ++ more) settled in
      record {
        was_open = put.was_open;
        is_open = put.is_open;
        inside = put.inside;
        holds = record {
          table = put.holds;
          sealed = put.digests ∙ ap (λ ds. ds ++ digests_after digest more) ((log.holds put.was_open).sealed ∙ ap digests_of settled)
              ∙ ap (λ d. digests_of (lines_of g old) ++ digests_after d more) (is put.was_open) ∙ sym (digests_more (sha256 []) (lines_of g old) more)
              ∙ ap digests_of (sym lines);
        };
        sound = put.sound;
        lines_are = lines;
      }

  -- what the database says of a transaction that is dropped without a commit
  pub record IsDropped (last end : Held S) : Type 0 where
    pub ended : end.in_transaction ≡ false
    pub undone : HasCleanDisk (state g end) → IsRolledBack (state g last) (state g end)
    pub survives : Survives (state g last) (state g end) (λ _. ⊥)

  -- and of a commit
  pub record IsCommit (last end : Held S) (r : Result (Unit {0}) Error) : Type 0 where
    pub ended : end.in_transaction ≡ false
    pub ok : HasCleanDisk (state g end) → OnOk r (IsTrue (state g last).in_transaction × Shows (state g last) (state g end) (state g last).now
        (state g last).now false × KeepsCounts (state g last) (state g end) × ((state g end).marks ≡ []))
    pub err : HasCleanDisk (state g end) → IfErr r (FailsToCommit (state g last) (state g end))
    pub survives : Survives (state g last) (state g end) (λ db. db ≡ (state g last).now.trees)

  -- what a call leaves that changes nothing
  pub record KeepsLog {A : Type 0} (old end : Held S) (Own : LogFault → Type 0) (r : Result A Error) : Type 0 where
    pub kept : IsKept g old end
    pub stays : HasCleanDisk (state g end) → OnOk r (IsOpen g end)
    pub survives : Survives (state g old) (state g end) (λ _. ⊥)
    pub cause : HasCleanDisk (state g end) → IsOpen g old → IfErr r (λ e. IsCaused (state g old) (state g end) Own (fault_of e))

  -- what a call leaves that makes these the lines of the log, or changes nothing
  pub record MakesLines (old end : Held S) (lines : List (List ℕ)) (Own : LogFault → Type 0) (r : Result (Unit {0}) Error) : Type 0 where
    pub log : IsLog g end
    pub ok : IsOpen g end → OnOk r (lines_of g end ≡ lines)
    pub err : IsOpen g end → OnErr r (lines_of g end ≡ lines_of g old)
    pub stays : HasCleanDisk (state g end) → OnOk r (IsOpen g end)
    pub shut : IsOpen g end → IsOpen g old
    pub survives : Survives (state g old) (state g end) (IsReplaced g old lines)
    pub cause : HasCleanDisk (state g end) → IsOpen g old → IfErr r (λ e. IsCaused (state g old) (state g end) Own (fault_of e))

  module _ (law : ShutsIfDirty g) (old end : Held S) (resting : IsIdle g old) (tx last : Transaction S) (is : tx.conn.now ≡ begun g old) where
    -- what a crash leaves does not hang on the transaction that has begun
    survived : Survives (state g tx.conn.now) (state g last.conn.now) (λ _. ⊥) → Survives (state g (begun g old)) (state g last.conn.now) (λ _. ⊥)
    survived = subst (λ h. Survives (state g h) (state g last.conn.now) (λ _. ⊥)) is

    -- nor does what is committed
    uncommitted : (HasCleanDisk (state g last.conn.now) → KeepsCommit (state g tx.conn.now) (state g last.conn.now))
        → HasCleanDisk (state g last.conn.now) → KeepsCommit (state g (begun g old)) (state g last.conn.now)
    uncommitted = subst (λ h. HasCleanDisk (state g last.conn.now) → KeepsCommit (state g h) (state g last.conn.now)) is

    -- a commit has no faults of its own
    commit_caused : (All : LogFault → Type 0) (e : Error) → Survives (state g tx.conn.now) (state g last.conn.now) (λ _. ⊥) → IsOpen g last.conn.now
        → last.conn.now.in_transaction ≡ true → FailsToCommit (state g last.conn.now) (state g end) e → IsCaused (state g old) (state g end) All (fault_of e)
    commit_caused All e before live inside failed =
        let begin = survived before in
        caused_longer (state g old) (state g last.conn.now) (state g end) (state g end) All All (λ f h. h) begin.counts (omega arith) (sym begin.limit)
        (fault_of e) (commit_fault (state g last.conn.now) (state g end) live All e inside failed)

    -- a call on the transaction fails, which is dropped
    pub undone : {A B : Type 0} {Does : A → Type 0} {Own All : LogFault → Type 0} (e : Error) → InLog g tx last (Err e) Does Own
        → IsDropped last.conn.now end → (r : Result B Error) → IsErrAnd r (λ x. x ≡ e) → ((f : LogFault) → Own f → All f) → KeepsLog old end All r
    undone e it drop (Ok b) never owns = absurd never
    undone {Own = Own} {All = All} e it drop (Err x) same owns = record {
      kept = rolled_back g law old last.conn.now end resting drop.survives.clean (uncommitted it.commit) drop.ended drop.undone;
      stays = λ clean. tt;
      survives = survives_then (state g old) (state g last.conn.now) (state g end) _ _ (λ _. ⊥) (λ _ db none. none) (λ _ db none. none)
          (survives_begin g old (state g last.conn.now) (λ _. ⊥) (survived it.survives)) drop.survives;
      cause = λ clean up.
          let late : HasCleanDisk (state g last.conn.now) = omega (arith, drop.survives.clean, clean) in
          let why = subst (λ h. IsOpen g h → IsCaused (state g h) (state g last.conn.now) Own (fault_of e)) is (it.cause late) up in
          subst (λ y. IsCaused (state g old) (state g end) All (fault_of y)) (sym same) (caused_longer (state g old) (state g (begun g old))
          (state g last.conn.now) (state g end) Own All owns (omega arith) drop.survives.counts refl (fault_of e) why);
    }

    -- so a call that was to make these lines fails, and changes nothing
    pub makes_none : {A : Type 0} {Does : A → Type 0} {Own All : LogFault → Type 0} (log : IsLog g old) (lines : List (List ℕ)) (e : Error) → InLog g tx last (Err e) Does Own
        → IsDropped last.conn.now end → (r : Result (Unit {0}) Error) → IsErrAnd r (λ x. x ≡ e) → ((f : LogFault) → Own f → All f)
        → MakesLines old end lines All r
    makes_none log lines e it drop (Ok u) never owns = absurd never
    makes_none log lines e it drop (Err x) same owns =
        let left = undone {B = Unit {0}} e it drop (Err x) same owns in
        record {
          log = kept_log g old end log left.kept;
          ok = λ up. tt;
          err = kept_lines g old end left.kept;
          stays = λ clean. tt;
          shut = left.kept.was_open;
          survives = record {
            clean = left.survives.clean;
            shield = left.survives.shield;
            counts = left.survives.counts;
            limit = left.survives.limit;
            closes = left.survives.closes;
            crash = λ clean db may. elim (left.survives.crash clean db may) [ inl was ↦ inl was | inr never ↦ absurd never ];
          };
          cause = left.cause;
        }

    -- the transaction has left these lines alone, and is committed
    pub committed : {A : Type 0} {Does : A → Type 0} {Own All : LogFault → Type 0} (log : IsLog g old) (lines : List (List ℕ)) (a : A) → InLog g tx last (Ok a) Does Own
        → (Does a → Fills (begun g old) last.conn.now lines) → (r : Result (Unit {0}) Error) → IsCommit last.conn.now end r → MakesLines old end lines All r
    committed {All = All} log lines a it fill r commit = by r commit
      where
        filled : HasCleanDisk (state g last.conn.now) → Fills (begun g old) last.conn.now lines
        filled clean = fill (it.does clean)

        early : HasCleanDisk (state g end) → HasCleanDisk (state g last.conn.now)
        early clean = omega (arith, commit.survives.clean, clean)

        whole : Survives (state g old) (state g end) (IsReplaced g old lines)
        whole = survives_then (state g old) (state g last.conn.now) (state g end) _ _ (IsReplaced g old lines) (λ _ db none. absurd none)
            (λ clean db same. let done = filled (early clean) in
            (done.was_open, kept_by g (state g last.conn.now).now lines done.holds done.sound done.lines_are db same))
            (survives_begin g old (state g last.conn.now) (λ _. ⊥) (survived it.survives)) commit.survives

        by : (r : Result (Unit {0}) Error) → IsCommit last.conn.now end r → MakesLines old end lines All r
        by (Ok u) commit = record {
          log = settles g law last.conn.now end commit.survives.clean (λ clean. (filled clean).holds) commit.ended (λ clean. (commit.ok clean).1);
          ok = settled_lines g law last.conn.now end lines commit.survives.clean (λ clean. (filled clean).lines_are) (λ clean. (commit.ok clean).1);
          err = λ up. tt;
          stays = λ clean. (commit.ok clean).1.is_open;
          shut = λ up. (filled (early (clean_of g law end up))).was_open;
          survives = whole;
          cause = λ clean up. tt;
        }
        by (Err e) commit =
            let kept = rolled_back g law old last.conn.now end resting commit.survives.clean (uncommitted it.commit) commit.ended
            (λ clean. not_committed g last.conn.now end e (filled (early clean)).inside (commit.err clean)) in
            record {
              log = kept_log g old end log kept;
              ok = λ up. tt;
              err = kept_lines g old end kept;
              stays = λ clean. tt;
              shut = kept.was_open;
              survives = whole;
              cause = λ clean up. let done = filled (early clean) in commit_caused All e it.survives done.is_open done.inside (commit.err clean);
            }

    -- the transaction has changed nothing, and is committed
    pub read : {A : Type 0} {Does : A → Type 0} {Own All : LogFault → Type 0} (a : A) → InLog g tx last (Ok a) Does Own
        → (Does a → IsUnchanged (state g tx.conn.now) (state g last.conn.now))
        → ((s : S) → IsTrue (g.view s).is_open → g.recovers s (g.view s).committed)
        → (r : Result (Unit {0}) Error) → IsCommit last.conn.now end r → KeepsLog old end All r
    read {All = All} a it same stays r commit = record {
      kept = read_ends g law old last.conn.now end resting commit.survives.clean still commit.ended r commit.ok commit.err;
      stays = λ clean. IfOk-weaker r _ _ (λ u done. done.1.is_open) (commit.ok clean);
      survives = read_survives g law old last.conn.now end resting commit.survives.clean still stays (survived it.survives) commit.survives;
      cause = λ clean up. IfErr-weaker r _ _ (λ e failed.
          let shown = (still (omega (arith, commit.survives.clean, clean))).0 in
          commit_caused All e it.survives shown.is_open shown.mode failed) (commit.err clean);
    }
      where
        still : HasCleanDisk (state g last.conn.now) → IsUnchanged (state g (begun g old)) (state g last.conn.now)
        still clean = subst (λ h. IsUnchanged (state g h) (state g last.conn.now)) is (same (it.does clean))
