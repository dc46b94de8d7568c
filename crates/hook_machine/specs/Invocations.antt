-- The invocation that is a stopped run's innermost frame, which its last turn has made.
use Rattle.std.specs.Prelude.{◌≡◌, ℕ, ℤ, ◌==◌, if◌then◌else◌, List, Option, None, Some, option_map, slice_get}
use Rattle.hook_changes.specs.declared.reply.Call.{Call}
use Rattle.hook_changes.specs.declared.reply.Reply.{Reply}
use Rattle.hook_machine.specs.declared.run.frames.Pending.{Pending}
use Rattle.hook_machine.specs.declared.run.frames.Invoked.{Invoked}
use Rattle.hook_machine.specs.declared.run.frames.Frame.{Frame}
use Rattle.hook_machine.specs.declared.run.frames.Frame.TheVariants.{Pass, Invocation, Shortcodes}
use Rattle.hook_machine.specs.declared.run.invocation.Invocation as invocation
use Rattle.hook_machine.specs.declared.run.paused.PausedRun.{PausedRun}
use Rattle.hook_machine.specs.declared.run.jobs.Job.{Job}
use Rattle.hook_meaning.specs.World.{World}
use Rattle.hook_meaning.specs.Meaning.{Engine, reply_to_call}
use Rattle.hook_machine.specs.Rest.{pending_left, then_rest}
use Rattle.hook_machine.specs.Runs.{paused_world, paused_left}

-- an invocation: its callback and call, the priority that the pass under it has reached, and how deep in asks the world is
pub record Made : Type 0 where
  pub callback : ℕ
  pub call : Call
  pub priority : Option ℤ
  pub depth : ℕ

abbrev pub made_as : invocation.Invocation → Made
made_as i = record { callback = i.callback; call = i.call.now; priority = i.priority; depth = i.depth }

-- the priority that a pass over a hook has reached; a shortcode pass has none
abbrev pub reached_by : Option Frame → Option ℤ
reached_by None = None
reached_by (Some (Pass pass)) = pass.position.reached
reached_by (Some (Invocation i)) = None
reached_by (Some (Shortcodes pass)) = None

-- the invocation that a frame is, if it is one
abbrev pub invoked_in : Option Frame → Option Invoked
invoked_in None = None
invoked_in (Some (Pass pass)) = None
invoked_in (Some (Invocation i)) = Some i
invoked_in (Some (Shortcodes pass)) = None

abbrev pub shown_by : World → Option ℤ → Invoked → Made
shown_by world priority i = record { callback = i.callback; call = i.call; priority = priority; depth = world.depth }

-- that of the innermost frame, if a job has begun; its pass is the next frame
abbrev pub made_in : World → Option Job → List Frame → Option Made
made_in world None frames = option_map (shown_by world (reached_by (slice_get frames 1))) (invoked_in (slice_get frames 0))
made_in world (Some job) frames = None

-- that of a run that is put aside
abbrev pub last_made : PausedRun → Option Made
last_made run = made_in (paused_world run) run.job run.stack

-- what is left of the run is, in its world, what is left of an invocation of this callback with this call by some pending
-- step, and then some frames
abbrev pub GoesOnWith : Engine → PausedRun → ℕ → Call → Type 0
GoesOnWith engine run callback call =
    (pending : Pending) × (frames : List Frame) × (paused_left engine run ≡ then_rest engine (pending_left engine (paused_world run) callback call pending)
    frames)

-- what a callback replies to a call; core's callback 0 has no reply
abbrev pub reply_made : Engine → ℕ → Call → Option Reply
reply_made engine callback call = if callback == 0 then None else Some (reply_to_call engine callback call)
