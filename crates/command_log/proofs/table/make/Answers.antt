use Rattle.std.proofs.Common.{◌≡◌, [], OnOk, rules, subst, arith}
use Rattle.command_log.specs.Lines.{IsOpen, IsLog, KeepsLines, lines_of}
use Rattle.sqlite.specs.Held.{state}
use Rattle.sqlite.specs.State.{HasCleanDisk, Survives}
use Rattle.sqlite.proofs.StateLemmas.{survives_then}
use Rattle.sqlite.proofs.Callers.{survives_begin}
use Rattle.command_log.proofs.Ending.{bare_log}
use Rattle.command_log.proofs.States.{begun, kept_by, log_if_ok, lines_if_ok}
use Rattle.command_log.proofs.table.make.Goals as goal

pub returns-clause-log : goal.returns-clause-log
returns-clause-log g c =
    let last = c.create.new.tx.conn.now in
    let end = c.commit.new.self.0 in
    let same : end ≡ c.conn-2-1.given.0 = search rules in
    subst (λ h. OnOk c.commit.result (IsLog g.S.Store h)) same
    (log_if_ok g.S.Store g.met.S.Store.shut_if_dirty last end c.commit.ensures.survives.clean (λ clean. let made = c.in_ok-create.ensures.made clean in bare_log g.S.Store last made.holds made.lines)
    c.commit.ensures.ended c.commit.result c.commit.ensures.ok)

pub returns-clause-empty : goal.returns-clause-empty
returns-clause-empty g c =
    let last = c.create.new.tx.conn.now in
    let end = c.commit.new.self.0 in
    let same : end ≡ c.conn-2-1.given.0 = search rules in
    subst (λ h. IsOpen g.S.Store h → OnOk c.commit.result (lines_of g.S.Store h ≡ [])) same
    (lines_if_ok g.S.Store g.met.S.Store.shut_if_dirty last end [] c.commit.ensures.survives.clean (λ clean. (c.in_ok-create.ensures.made clean).lines)
    c.commit.result c.commit.ensures.ok)

pub returns-clause-survives : goal.returns-clause-survives
returns-clause-survives g c =
    let old = c.args.conn.now in
    let last = c.create.new.tx.conn.now in
    let end = c.commit.new.self.0 in
    let same : end ≡ c.conn-2-1.given.0 = search rules in
    let one : Survives (state g.S.Store (begun g.S.Store old)) (state g.S.Store last) (λ _. ⊥)
    = subst (λ h. Survives (state g.S.Store h) (state g.S.Store last) (λ _. ⊥)) c.transaction-tx.ensures.begun c.in_ok-create.ensures.survives in
    subst (λ h. Survives (state g.S.Store old) (state g.S.Store h) (KeepsLines [])) same
    (survives_then (state g.S.Store old) (state g.S.Store last) (state g.S.Store end) _ _ (KeepsLines []) (λ _ db none. absurd none) (λ clean db is.
    let early : HasCleanDisk (state g.S.Store last) = omega (arith, c.commit.ensures.survives.clean, clean) in
    let made = c.in_ok-create.ensures.made early in
    kept_by g.S.Store (state g.S.Store last).now [] (bare_log g.S.Store last made.holds made.lines) made.sound made.lines db is)
    (survives_begin g.S.Store old (state g.S.Store last) (λ _. ⊥) one) c.commit.ensures.survives)
