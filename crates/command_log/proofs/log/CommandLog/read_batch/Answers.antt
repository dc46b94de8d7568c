use Rattle.std.proofs.Common.{ap, sym, subst₂, ◌∙◌}
use Rattle.sqlite.specs.Effect.{Database}
use Rattle.command_log.specs.Digests.{digest_of}
use Rattle.sqlite.specs.Held.{state}
use Rattle.sqlite.specs.State.{HasCleanDisk}
use Rattle.command_log.specs.Lines.{IsOpen, lines_in, lines_left}
use Rattle.command_log.specs.Faults.{IsCaused, Unreadable, fault_of}
use Rattle.command_log.proofs.States.{on_error}
use Rattle.command_log.proofs.log.CommandLog.read_batch.Goals as goal

pub returns-in_err-lines-clause-cause : goal.returns-in_err-lines-clause-cause
returns-in_err-lines-clause-cause g c clean up =
    let end = c.read_after.new.conn in
    let why = subst₂ (λ h p. HasCleanDisk (state g.S.Store end) → IsOpen g.S.Store h → IsCaused (state g.S.Store h) (state g.S.Store end)
    (Unreadable (lines_left g.S.Store h p)) (fault_of c.in_err-lines.field-0.0))
    c.self.view_is c.last.ensures c.in_err-lines.ensures.cause in
    on_error _ (fault_of c.in_err-lines.field-0.0) (why clean up) c.from_residual.result c.from_residual.ensures.1

pub invariant_of-self : goal.invariant_of-self
invariant_of-self g c =
    let it = c.in_err-lines.ensures in
    (it.log, λ up. c.self.invariant.1 (it.shut up) ∙ ap (λ (d : Database). digest_of (lines_in d.trees)) (sym (it.committed up)))

pub invariant_of-self-2 : goal.invariant_of-self-2
invariant_of-self-2 g c =
    let it = c.in_ok-lines.ensures in
    (it.log, λ up. c.self.invariant.1 (it.shut up) ∙ ap (λ (d : Database). digest_of (lines_in d.trees)) (sym (it.committed up)))
