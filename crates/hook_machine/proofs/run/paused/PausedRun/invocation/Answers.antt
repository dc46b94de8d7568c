use Rattle.std.proofs.Common.{rules, ◌≡◌, false, Some}
use Rattle.std.specs.Prelude.{is_some, slice_get}
use Rattle.hook_machine.specs.Invocations.{invoked_in}
use Rattle.hook_machine.specs.Runs.{paused_world}
use Rattle.hook_machine.proofs.Innermost.{innermost-left, innermost-made}
use Rattle.hook_machine.proofs.run.paused.PausedRun.invocation.Goals as goal

pub returns-clause-event : goal.returns-clause-event
returns-clause-event c =
    let run = c.args.self.now in
    let found : invoked_in (slice_get run.stack 0) ≡ Some c.in_ok-invoked.invoked.now = search rules in
    rw (c.callback.ensures, c.call.ensures) (innermost-made run.stack _ found)

pub returns-clause-left : goal.returns-clause-left
returns-clause-left c = λ engine.
    let run = c.args.self.now in
    let begun : is_some run.job ≡ false = search rules in
    let found : invoked_in (slice_get run.stack 0) ≡ Some c.in_ok-invoked.invoked.now = search rules in
    rw (c.callback.ensures, c.call.ensures) (innermost-left engine (paused_world run) run.job run.stack _ begun found)
