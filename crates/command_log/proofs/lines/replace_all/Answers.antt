use Rattle.std.proofs.Common.{◌≡◌, [], ℕ, ℤ, List, Ok, map, rules, subst, subst₂, w64}
use Rattle.std.proofs.lemmas.Int.{to_z-of_z}
use Rattle.std.specs.String.{string_bytes}
use Rattle.command_log.specs.Lines.{PutsAnyAt, rows_of}
use Rattle.command_log.specs.Faults.{Nothing, Unstorable}
use Rattle.command_log.specs.Inside.{InLog}
use Rattle.command_log.proofs.States.{clean_of, no_rows, tabled}
use Rattle.command_log.proofs.Ending.{Fills, IsDropped, IsCommit, MakesLines, begins, then_ok, then_err, fills, makes_none, committed}
use Rattle.command_log.proofs.lines.replace_all.Goals as goal

pub clear-requires : goal.clear-requires
clear-requires g c = begins g.S.Store c.args.conn.now c.transaction-tx.result (tabled g.S.Store c.args.conn.now c.requires.log) c.transaction-tx.ensures.begun

pub put_lines_at-requires-clause-inside : goal.put_lines_at-requires-clause-inside
put_lines_at-requires-clause-inside g c = record {
  inside = λ clean. (c.in_ok-clear.ensures.does clean).inside;
  holds = λ up. (c.in_ok-clear.ensures.does (clean_of g.S.Store g.met.S.Store.shut_if_dirty c.clear.new.tx.conn.now up)).holds;
}

pub put_lines_at-requires-clause-none : goal.put_lines_at-requires-clause-none
put_lines_at-requires-clause-none g c up =
    let mid = c.clear.new.tx.conn.now in
    no_rows (rows_of g.S.Store mid) (c.in_ok-clear.ensures.does (clean_of g.S.Store g.met.S.Store.shut_if_dirty mid up)).lines

pub returns-in_err-clear : goal.returns-in_err-clear
returns-in_err-clear g c =
    let old = c.args.conn.now in
    let mid = c.clear.new.tx in
    let end = c.drop-tx.new.self.0 in
    let lines = map string_bytes c.args.lines.now in
    let r = c.from_residual.result in
    let drop : IsDropped g.S.Store mid.conn.now end =
    record { ended = c.drop-tx.ensures.ended; undone = c.drop-tx.ensures.undone; survives = c.drop-tx.ensures.survives } in
    let same : end ≡ c.conn-1.given.0 = search rules in
    let it = subst (λ h. MakesLines g.S.Store old h lines (Unstorable [] lines) r) same
    (makes_none g.S.Store g.met.S.Store.shut_if_dirty old end c.requires.log.idle c.transaction-tx.result mid c.transaction-tx.ensures.begun c.requires.log lines
    c.in_err-clear.field-0.0 c.in_err-clear.ensures drop r c.from_residual.ensures.1 (λ f h. absurd h)) in
    record { log = it.log; ok = it.ok; err = it.err; stays = it.stays; shut = it.shut; survives = it.survives; cause = it.cause; digest = search rules }

pub returns-in_err-put_lines_at : goal.returns-in_err-put_lines_at
returns-in_err-put_lines_at g c =
    let old = c.args.conn.now in
    let tx = c.transaction-tx.result in
    let mid = c.clear.new.tx in
    let last = c.put_lines_at.new.tx in
    let end = c.drop-tx-in_err-put_lines_at.new.self.0 in
    let lines = map string_bytes c.args.lines.now in
    let e = c.in_err-put_lines_at.field-0.0 in
    let r = c.from_residual-in_err-put_lines_at.result in
    let dropped = c.drop-tx-in_err-put_lines_at.ensures in
    let drop : IsDropped g.S.Store last.conn.now end = record { ended = dropped.ended; undone = dropped.undone; survives = dropped.survives } in
    let both = then_err g.S.Store tx mid last c.in_ok-clear.field-0 e c.in_ok-clear.ensures c.in_err-put_lines_at.ensures.puts (λ up made. made.is_open) (λ made f h. h) in
    let same : end ≡ c.conn-in_err-put_lines_at-1.given.0 = search rules in
    let it = subst (λ h. MakesLines g.S.Store old h lines (Unstorable [] lines) r) same
    (makes_none g.S.Store g.met.S.Store.shut_if_dirty old end c.requires.log.idle tx last c.transaction-tx.ensures.begun c.requires.log lines e both drop r
    c.from_residual-in_err-put_lines_at.ensures.1 (λ f h. h)) in
    record { log = it.log; ok = it.ok; err = it.err; stays = it.stays; shut = it.shut; survives = it.survives; cause = it.cause; digest = search rules }

pub returns : goal.returns
returns g c =
    let old = c.args.conn.now in
    let tx = c.transaction-tx.result in
    let mid = c.clear.new.tx in
    let last = c.put_lines_at.new.tx in
    let end = c.commit.new.self.0 in
    let lines = map string_bytes c.args.lines.now in
    let r = c.commit.result in
    let commit : IsCommit g.S.Store last.conn.now end r =
    record { ended = c.commit.ensures.ended; ok = c.commit.ensures.ok; err = c.commit.ensures.err; survives = c.commit.ensures.survives } in
    let both : InLog g.S.Store tx last (Ok (tt {0})) (λ _. Fills g.S.Store tx.conn.now last.conn.now lines) Nothing =
    then_ok g.S.Store tx mid last c.in_ok-clear.field-0 c.in_ok-put_lines_at.field-0 (tt {0}) c.in_ok-clear.ensures c.in_ok-put_lines_at.ensures.puts
    (λ made puts. fills g.S.Store tx.conn.now mid.conn.now last.conn.now c.args.number lines made
    (subst₂ (λ (n : ℤ) (d : List ℕ). PutsAnyAt g.S.Store n mid.conn.now last.conn.now d lines) (to_z-of_z w64 c.args.number c.ranges.number) c.requires.digest
    puts)) in
    let same : end ≡ c.conn-2-1.given.0 = search rules in
    let it = subst (λ h. MakesLines g.S.Store old h lines (Unstorable [] lines) r) same
    (committed g.S.Store g.met.S.Store.shut_if_dirty old end c.requires.log.idle tx last c.transaction-tx.ensures.begun c.requires.log lines (tt {0}) both
    (subst (λ h. Fills g.S.Store h last.conn.now lines) c.transaction-tx.ensures.begun) r commit) in
    record { log = it.log; ok = it.ok; err = it.err; stays = it.stays; shut = it.shut; survives = it.survives; cause = it.cause; digest = search rules }
