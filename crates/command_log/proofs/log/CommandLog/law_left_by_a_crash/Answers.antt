use Rattle.std.proofs.Common.{◌≡◌, ℕ, List, refl, sym, subst}
use Rattle.sqlite.specs.Tree.{Trees}
use Rattle.sqlite.specs.Held.{state}
use Rattle.command_log.specs.Lines.{HoldsLog, KeepsLines, IsOpen, MayHold, MayLeave, lines_of}
use Rattle.command_log.proofs.States.{kept_by}
use Rattle.command_log.proofs.Restart.{keeps_only}
use Rattle.command_log.proofs.log.CommandLog.law_left_by_a_crash.Goals as goal

pub returns-clause-keeps : goal.returns-clause-keeps
returns-clause-keeps g c =
    let h = c.self.inside.conn in
    let log = c.self.invariant.0 in
    subst (λ h. IsOpen g.S.Store h → (db : Trees) → MayLeave g.S.Store h db → KeepsLines (lines_of g.S.Store h) db) c.self.view_is
    (λ up db may.
    kept_by g.S.Store (state g.S.Store h).committed (lines_of g.S.Store h) (subst HoldsLog (sym (log.idle.settled up)) (log.holds up))
    (c.schema-schema.ensures.live up).1 refl db
    (g.met.S.Store.settled h.store db up may))

pub returns-clause-holds : goal.returns-clause-holds
returns-clause-holds g c =
    let h = c.self.inside.conn in
    let log = c.self.invariant.0 in
    subst (λ h. IsOpen g.S.Store h → (lines : List (List ℕ)) → MayHold g.S.Store h lines → lines_of g.S.Store h ≡ lines) c.self.view_is
    (λ up lines may.
    keeps_only may.1.0 (lines_of g.S.Store h) lines
    (kept_by g.S.Store (state g.S.Store h).committed (lines_of g.S.Store h) (subst HoldsLog (sym (log.idle.settled up)) (log.holds up))
    (c.schema-schema.ensures.live up).1 refl may.1.0
    (g.met.S.Store.settled h.store may.1.0 up may.1.1))
    may.1.2)
