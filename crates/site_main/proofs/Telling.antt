-- From what serving says of a site to what it says of the site that a program makes.
use Rattle.std.proofs.Common.{◌≡◌, ◌∙◌, ◌++◌, ℕ, Bool, List, Option, Some, None, Result, Ok, Err, ap, subst, subst₂}
use Rattle.std.specs.Prelude.{IfSome, OnOk}
use Rattle.byte_io.specs.declared.journal.Journal.{Ghosts}
use Rattle.callback_store.specs.Shape.{shapes_of}
use Rattle.callback_store.specs.declared.plugins.Plugins.{Plugins}
use Rattle.hook_changes.specs.declared.reply.Call.{Call}
use Rattle.hook_changes.specs.declared.reply.Reply.{Reply}
use Rattle.site_replies.specs.Reply.{ReplyData}
use Rattle.site_replies.specs.declared.fault.ServeFault.{ServeFault}
use Rattle.site_serving.specs.Lines.{lines_of}
use Rattle.site_serving.specs.Serving.{IsReplies}
use Rattle.site_program.specs.Serving.{IsServed}
use Rattle.site_program.specs.Site.{calls_of, engine_of, setup_of}
use Rattle.site_program.specs.State.{State}
use Rattle.site_program.specs.Step.{step, steps_of}
use Rattle.site_program.specs.declared.site.Site.{Site}
use Rattle.site_main.specs.Steps.{steps_over}

-- the state after the last line, by its existence alone
pub told : {X E : Type 0} (replies : X → List ℕ → ReplyData → X → Type 0) (old new : X) (given before after : Option (List ℕ)) (result : Result (Unit {0}) E)
    → OnOk result (IfSome given (λ input. IfSome before (λ was. (out : List ℕ) × IsReplies replies old (lines_of input) out new × (after ≡ Some (was ++ out)))))
    → OnOk result (IfSome given (λ input. IfSome before (λ was.
    (out : List ℕ) × (last : X) × IsReplies replies old (lines_of input) out last × (after ≡ Some (was ++ out)))))
told replies old new (Some input) (Some was) after (Ok x) (out, is, all) = (out, new, is, all)
told replies old new None before after (Ok x) is = tt
told replies old new (Some input) None after (Ok x) is = tt
told replies old new given before after (Err e) is = tt

-- the steps of the site that was made are those over its plugins
pub steps_are : {S : Type 0} (says : ℕ → Call → Reply) (number : S → ℕ) (plugins : Plugins S) (calls : ℕ) (kept made : Site S) → kept ≡ made
    → engine_of says number (setup_of made) ≡ record { says = says; plugins = shapes_of number plugins } → calls_of (setup_of made) ≡ calls
    → steps_of says number (setup_of kept) ≡ steps_over says number plugins calls
steps_are says number plugins calls kept made is engine count =
    ap (λ site. steps_of says number (setup_of site)) is
    ∙ ap (λ e. step e (calls_of (setup_of made))) engine
    ∙ ap (step (record { says = says; plugins = shapes_of number plugins })) count

-- what serving says, of other steps and another state that are the same
pub served_from : {J : Type 0} (g : Ghosts J) (steps over : State → List ℕ → State × ReplyData) (old first : State) (given left : Option (List ℕ))
    (has_failed : Bool) (before after : J) (result : Result (Unit {0}) ServeFault) (new : State) → steps ≡ over → old ≡ first
    → IsServed steps g old given left has_failed before after result new → IsServed over g first given left has_failed before after result new
served_from g steps over old first given left has_failed before after result new same_steps same_state is =
    subst₂ (λ s x. IsServed s g x given left has_failed before after result new) same_steps same_state is
