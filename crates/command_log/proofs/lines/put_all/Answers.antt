use Rattle.std.proofs.Common.{◌≡◌, ◌++◌, map, rules, subst}
use Rattle.std.specs.String.{string_bytes}
use Rattle.command_log.specs.Lines.{PutsAny, lines_of, rows_of}
use Rattle.command_log.specs.Faults.{Unstorable}
use Rattle.command_log.proofs.States.{begun, puts_some, tabled}
use Rattle.command_log.proofs.Ending.{IsDropped, IsCommit, MakesLines, begins, fills_more, makes_none, committed}
use Rattle.command_log.proofs.lines.put_all.Goals as goal

pub put_lines-requires : goal.put_lines-requires
put_lines-requires g c = begins g.S.Store c.args.conn.now c.transaction-tx.result (tabled g.S.Store c.args.conn.now c.requires.log) c.transaction-tx.ensures.begun

pub returns-in_err-put_lines : goal.returns-in_err-put_lines
returns-in_err-put_lines g c =
    let old = c.args.conn.now in
    let last = c.put_lines.new.tx in
    let end = c.drop-tx.new.self.0 in
    let more = map string_bytes c.args.more.now in
    let lines = lines_of g.S.Store old ++ more in
    let own = Unstorable (rows_of g.S.Store old) more in
    let r = c.from_residual.result in
    let drop : IsDropped g.S.Store last.conn.now end =
    record { ended = c.drop-tx.ensures.ended; undone = c.drop-tx.ensures.undone; survives = c.drop-tx.ensures.survives } in
    let same : end ≡ c.conn-1.given.0 = search rules in
    let it = subst (λ h. MakesLines g.S.Store old h lines own r) same
    (makes_none g.S.Store g.met.S.Store.shut_if_dirty old end c.requires.log.idle c.transaction-tx.result last c.transaction-tx.ensures.begun c.requires.log lines
    c.in_err-put_lines.field-0.0 c.in_err-put_lines.ensures.puts drop r c.from_residual.ensures.1
    (λ f. subst (λ h. Unstorable (rows_of g.S.Store h) more f) c.transaction-tx.ensures.begun)) in
    record { log = it.log; ok = it.ok; err = it.err; stays = it.stays; shut = it.shut; survives = it.survives; cause = it.cause; digest = search rules }

pub returns : goal.returns
returns g c =
    let old = c.args.conn.now in
    let last = c.put_lines.new.tx in
    let end = c.commit.new.self.0 in
    let more = map string_bytes c.args.more.now in
    let lines = lines_of g.S.Store old ++ more in
    let own = Unstorable (rows_of g.S.Store old) more in
    let r = c.commit.result in
    let commit : IsCommit g.S.Store last.conn.now end r =
    record { ended = c.commit.ensures.ended; ok = c.commit.ensures.ok; err = c.commit.ensures.err; survives = c.commit.ensures.survives } in
    let same : end ≡ c.conn-2-1.given.0 = search rules in
    let it = subst (λ h. MakesLines g.S.Store old h lines own r) same
    (committed g.S.Store g.met.S.Store.shut_if_dirty old end c.requires.log.idle c.transaction-tx.result last c.transaction-tx.ensures.begun c.requires.log lines
    c.in_ok-put_lines.field-0 c.in_ok-put_lines.ensures.puts
    (λ puts. fills_more g.S.Store old last.conn.now c.args.digest.now more c.requires.log c.requires.digest (puts_some g.S.Store string_bytes c.args.more.now
    c.args.digest.now (begun g.S.Store old) last.conn.now c.requires.some (subst (λ h. PutsAny g.S.Store h last.conn.now c.args.digest.now more)
    c.transaction-tx.ensures.begun puts))) r commit) in
    record { log = it.log; ok = it.ok; err = it.err; stays = it.stays; shut = it.shut; survives = it.survives; cause = it.cause; digest = search rules }
