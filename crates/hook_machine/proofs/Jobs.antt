-- A job makes no more invocations than calls are left.
use Rattle.std.proofs.Common.{arith}
use Rattle.hook_meaning.specs.World.{World}
use Rattle.hook_meaning.specs.Meaning.{Engine, invoke}
use Rattle.hook_machine.specs.declared.run.jobs.Job.{Job}
use Rattle.hook_machine.specs.declared.run.jobs.Job.TheVariants as job
use Rattle.hook_machine.specs.Jobs.{TurnsWithin}
use Rattle.hook_meaning.proofs.Agree.{agree_filter, agree_action, agree_shortcodes, invoke-agree, Any, Every, plain}
use Rattle.hook_meaning.proofs.Throughout.{agree-turns}

pub turns-within : (engine : Engine) (w : World) (j : Job) → TurnsWithin engine w j
turns-within engine w (job.Filters hook value args) =
    agree-turns (agree_filter engine engine Any Every (plain engine) w.calls (invoke engine) (invoke engine)
    (invoke-agree engine engine Any Every (plain engine) w.calls) w.calls (omega arith) w hook value args (omega arith, tt))
turns-within engine w (job.Action hook args) =
    agree-turns (agree_action engine engine Any Every (plain engine) w.calls (invoke engine) (invoke engine)
    (invoke-agree engine engine Any Every (plain engine) w.calls) w.calls (omega arith) w hook args (omega arith, tt))
turns-within engine w (job.Shortcodes text) =
    agree-turns (agree_shortcodes engine engine Any Every (plain engine) w.calls (invoke engine) (invoke engine)
    (invoke-agree engine engine Any Every (plain engine) w.calls) w.calls (omega arith) w text (omega arith, tt))
