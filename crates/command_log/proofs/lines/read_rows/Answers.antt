use Rattle.std.proofs.Common.{◌≡◌, Ok, Err, Result, rules, sym, subst, w64, arith}
use Rattle.std.proofs.lemmas.Int.{to_z-of_z}
use Rattle.sqlite.specs.declared.error.Error.{Error}
use Rattle.sqlite.specs.Held.{state}
use Rattle.sqlite.specs.State.{HasCleanDisk}
use Rattle.command_log.specs.Faults.{Nothing}
use Rattle.command_log.proofs.States.{kept_log, kept_table, on_error}
use Rattle.command_log.proofs.Ending.{IsDropped, IsCommit, KeepsLog, begins, undone, read, shown_rows}
use Rattle.command_log.proofs.lines.read_rows.Goals as goal

pub rows_after-requires : goal.rows_after-requires
rows_after-requires g c = begins g.S.Store c.args.conn.now c.transaction-tx.result c.requires c.transaction-tx.ensures.begun

pub returns-in_err-rows : goal.returns-in_err-rows
returns-in_err-rows g c =
    let old = c.args.conn.now in
    let last = c.rows_after.new.tx in
    let end = c.drop-tx.new.self.0 in
    let r = c.from_residual.result in
    let drop : IsDropped g.S.Store last.conn.now end =
    record { ended = c.drop-tx.ensures.ended; undone = c.drop-tx.ensures.undone; survives = c.drop-tx.ensures.survives } in
    let same : end ≡ c.conn-1.given.0 = search rules in
    let it = subst (λ h. KeepsLog g.S.Store old h Nothing r) same
    (undone g.S.Store g.met.S.Store.shut_if_dirty old end c.requires.idle c.transaction-tx.result last c.transaction-tx.ensures.begun c.in_err-rows.field-0.0
    c.in_err-rows.ensures drop r c.from_residual.ensures.1 (λ f h. h)) in
    record {
      table = kept_table g.S.Store old _ c.requires it.kept;
      log = λ log. kept_log g.S.Store old _ log it.kept;
      committed = it.kept.committed;
      shut = it.kept.was_open;
      stays = it.stays;
      rows = search rules;
      survives = it.survives;
      cause = it.cause;
    }

pub returns-in_err-commit : goal.returns-in_err-commit
returns-in_err-commit g c =
    let old = c.args.conn.now in
    let last = c.rows_after.new.tx in
    let end = c.commit.new.self.0 in
    let e = c.in_err-commit.field-0.0 in
    let r : Result (Unit {0}) Error = Err e in
    let done = c.in_err-commit.ensures in
    let commit : IsCommit g.S.Store last.conn.now end r = record { ended = done.ended; ok = done.ok; err = done.err; survives = done.survives } in
    let same : end ≡ c.conn-2-1.given.0 = search rules in
    let it = subst (λ h. KeepsLog g.S.Store old h Nothing r) same
    (read g.S.Store g.met.S.Store.shut_if_dirty old end c.requires.idle c.transaction-tx.result last c.transaction-tx.ensures.begun c.in_ok-rows.rows
    c.in_ok-rows.ensures (λ reads. reads.same) g.met.S.Store.stays r commit) in
    record {
      table = kept_table g.S.Store old _ c.requires it.kept;
      log = λ log. kept_log g.S.Store old _ log it.kept;
      committed = it.kept.committed;
      shut = it.kept.was_open;
      stays = search rules;
      rows = search rules;
      survives = it.survives;
      cause = λ clean up. on_error _ e (it.cause clean up) c.from_residual-in_err-commit.result c.from_residual-in_err-commit.ensures.1;
    }

pub returns : goal.returns
returns g c =
    let old = c.args.conn.now in
    let last = c.rows_after.new.tx in
    let end = c.commit.new.self.0 in
    let r : Result (Unit {0}) Error = Ok (tt {0}) in
    let done = c.in_ok-commit.ensures in
    let commit : IsCommit g.S.Store last.conn.now end r = record { ended = done.ended; ok = done.ok; err = done.err; survives = done.survives } in
    let same : end ≡ c.conn-2-1.given.0 = search rules in
    let it = subst (λ h. KeepsLog g.S.Store old h Nothing r) same
    (read g.S.Store g.met.S.Store.shut_if_dirty old end c.requires.idle c.transaction-tx.result last c.transaction-tx.ensures.begun c.in_ok-rows.rows
    c.in_ok-rows.ensures (λ reads. reads.same) g.met.S.Store.stays r commit) in
    record {
      table = kept_table g.S.Store old _ c.requires it.kept;
      log = λ log. kept_log g.S.Store old _ log it.kept;
      committed = it.kept.committed;
      shut = it.kept.was_open;
      stays = it.stays;
      rows = λ clean.
          let back : HasCleanDisk (state g.S.Store end) = subst (λ h. HasCleanDisk (state g.S.Store h)) (sym same) clean in
          let late : HasCleanDisk (state g.S.Store last.conn.now) = omega (arith, done.survives.clean, back) in
          shown_rows g.S.Store old c.transaction-tx.result last c.transaction-tx.ensures.begun c.args.limit (to_z-of_z w64 c.args.limit c.ranges.limit)
          (c.in_ok-rows.ensures.does late);
      survives = it.survives;
      cause = it.cause;
    }
