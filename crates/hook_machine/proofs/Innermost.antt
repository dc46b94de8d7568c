-- The innermost frame of a stopped run.
use Rattle.std.proofs.Common.{◌≡◌, false, List, [], ◌∷◌, Option, None, Some, refl, sym, ap, subst}
use Rattle.std.specs.Prelude.{is_some, slice_get}
use Rattle.hook_machine.specs.declared.run.frames.Invoked.{Invoked}
use Rattle.hook_machine.specs.declared.run.frames.Pending.{Pending}
use Rattle.hook_machine.specs.declared.run.frames.Frame.{Frame}
use Rattle.hook_machine.specs.declared.run.frames.Frame.TheVariants.{Pass, Invocation, Shortcodes}
use Rattle.hook_machine.specs.declared.run.jobs.Job.{Job}
use Rattle.hook_meaning.specs.World.{World}
use Rattle.hook_meaning.specs.Meaning.{Engine}
use Rattle.hook_machine.specs.Rest.{rest, goes_on, pending_left, then_rest}
use Rattle.hook_machine.specs.Jobs.{left_from}
use Rattle.hook_machine.specs.Moves.{innermost}
use Rattle.hook_machine.specs.Invocations.{invoked_in}

-- it is the invocation that was just made
pub innermost-made : (frames : List Frame) (i : Invoked) → invoked_in (slice_get frames 0) ≡ Some i
    → (i.callback ≡ (innermost frames).callback) × (i.call ≡ (innermost frames).call)
innermost-made [] i is = cc
innermost-made (Pass pass ∷ fs) i is = cc
innermost-made (Shortcodes pass ∷ fs) i is = cc
innermost-made (Invocation j ∷ fs) i is =
    let found : Some j ≡ Some i = is in
    let same : j ≡ i = cc in
    (ap (λ (k : Invoked). k.callback) (sym same), ap (λ (k : Invoked). k.call) (sym same))

-- what is left begins with what is left of an invocation
abbrev Begins : Engine → World → Option Job → List Frame → Invoked → Type 0
Begins engine world job frames i =
    (pending : Pending) × (outer : List Frame) × (left_from engine world job frames ≡ then_rest engine (pending_left engine world i.callback i.call pending)
    outer)

-- the frames begin with what is left of the innermost one, if that is an invocation
pub innermost-left : (engine : Engine) (world : World) (job : Option Job) (frames : List Frame) (i : Invoked) → is_some job ≡ false
    → invoked_in (slice_get frames 0) ≡ Some i → Begins engine world job frames i
unfolding rest goes_on
innermost-left engine world (Some job) frames i none is = cc
innermost-left engine world None [] i none is = cc
innermost-left engine world None (Pass pass ∷ fs) i none is = cc
innermost-left engine world None (Shortcodes pass ∷ fs) i none is = cc
innermost-left engine world None (Invocation j ∷ fs) i none is =
    let found : Some j ≡ Some i = is in
    let same : j ≡ i = cc in
    subst (λ (k : Invoked). Begins engine world None (Invocation j ∷ fs) k) same (j.pending, fs, refl)
