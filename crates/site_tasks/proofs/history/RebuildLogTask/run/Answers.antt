use Rattle.std.proofs.Common.{◌≡◌, ◌-◌, inl, inr, length, subst}
use Rattle.std.specs.Prelude.{IfOk}
use Rattle.sqlite.specs.Held.{state}
use Rattle.command_log.specs.Digests.{digest_of}
use Rattle.command_log.specs.Lines.{lines_of}
use Rattle.command_log.proofs.Restart.{held_then}
use Rattle.site_serving.specs.Served.{state_after}
use Rattle.site_start.specs.Started.{HasEdits, IsTakenOver}
use Rattle.site_start.proofs.Leaving.{left_by_start}
use Rattle.site_start.proofs.Replaying.{clean_before}
use Rattle.site_start.proofs.Stopping.{of_any_log}
use Rattle.site_tasks.proofs.history.RebuildLogTask.run.Goals as goal

pub returns-in-Ok : goal.returns-in-Ok
returns-in-Ok g c =
    let store = g.S.Store in
    let log = c.args.log in
    let started = c.start.new.log in
    let did = c.in-Ok.ensures in
    λ image from lines held.
    let clean = clean_before store started c.summary_of-summary.new.log _ c.summary_of-summary.ensures.survives held.0 in
    let up = from.opened (clean_before store log started _ c.start.ensures.survives clean) in
    let are : lines_of store started ≡ lines = elim (held_then store started c.summary_of-summary.new.log _ c.summary_of-summary.ensures.survives lines held) [
      | inl was ↦ c.law_left_by_a_crash-in-Ok.ensures.holds (did.opened clean) lines was
      | inr none ↦ absurd none.1
    ] in
    record {
      held = lines_of store log;
      were_held = from.finds up;
      taken_over = subst (IsTakenOver c.args.self.identity.now (lines_of store log)) are (did.lines clean);
      has_edits = subst (HasEdits g.C.Commands.edits c.args.self.identity.now) are (did.edits clean);
      made = subst (λ l. g.C.Commands.state c.start.new.site ≡ state_after (g.C.Commands.steps (g.C.Commands.fixed c.args.self.site))
          (g.C.Commands.state c.args.self.site) l) are (did.replayed clean);
      count = subst (λ l. IfOk c.summary_of-summary.result (λ it. it.edits ≡ length l - 1)) are (c.summary_of-summary.ensures.edits held.0);
      digest = subst (λ l. IfOk c.summary_of-summary.result (λ it. it.digest ≡ digest_of l)) are (c.summary_of-summary.ensures.digest held.0);
    }

pub returns-in-Err : goal.returns-in-Err
returns-in-Err g c =
    let store = g.S.Store in
    let task = c.args.self in
    let log = c.args.log in
    λ image from lines held. (
      left_by_start image task.identity.now store log c.start.new.log from.opened c.law_left_by_a_crash.ensures.holds c.start.ensures.survives from.finds
          lines held,
      (
          let up = from.opened (clean_before store log c.start.new.log _ c.start.ensures.survives held.0) in
          record { held = lines_of store log; finds = from.finds up; cause = of_any_log _ _ _ _ _ _ _ _ (c.in-Err.ensures.cause held.0 up) }
          ),
    )
