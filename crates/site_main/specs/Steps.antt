-- What lines mean to a site that a program makes.
use Rattle.std.specs.Prelude.{ℕ, List}
use Rattle.callback_store.specs.Shape.{shapes_of}
use Rattle.callback_store.specs.declared.plugins.Plugins.{Plugins}
use Rattle.hook_changes.specs.declared.reply.Call.{Call}
use Rattle.hook_changes.specs.declared.reply.Reply.{Reply}
use Rattle.site_replies.specs.Reply.{ReplyData}
use Rattle.site_program.specs.State.{State}
use Rattle.site_program.specs.Step.{step}

-- the steps of a site over these plugins, each of whose pages may make so many calls; `says` is what the plugins' callbacks are
-- stated to reply
abbrev pub steps_over : {S : Type 0} → (ℕ → Call → Reply) → (S → ℕ) → Plugins S → ℕ → State → List ℕ → State × ReplyData
steps_over says number plugins calls = step (record { says = says; plugins = shapes_of number plugins }) calls
