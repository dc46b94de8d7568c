-- What a filter makes of a value by callbacks that neither change anything nor ask.
use Rattle.std.specs.Prelude.{◌≡◌, ◌≤◌, Bool, true, false, ◌==◌, List, [], ◌∷◌, length, take, fold, Option, None, Some}
use Rattle.std.specs.List.{AllByRecursion}
use Rattle.plain_data.specs.Names.{is_hook_name}
use Rattle.hook_changes.specs.declared.reply.Call.{Call}
use Rattle.hook_changes.specs.declared.reply.Then.{Then}
use Rattle.hook_changes.specs.declared.reply.Then.TheVariants as next
use Rattle.hook_registry.specs.declared.registration.Registration.{Registration}
use Rattle.hook_registry.specs.Order.{by_priority}
use Rattle.hook_registry.specs.Table.{registrations}
use Rattle.plain_data.specs.Texts.{Text}
use Rattle.hook_meaning.specs.World.{World}
use Rattle.hook_meaning.specs.Trace.{Outcome, Ended, Fault, outcome_of}
use Rattle.hook_meaning.specs.Meaning.{Engine, reply_to_call, hook_call, filtered}

abbrev pub is_answer : Then → Bool
is_answer (next.Answer text) = true
is_answer (next.Ask ask) = false

abbrev pub answer_in : Then → Text
answer_in (next.Answer text) = text
answer_in (next.Ask ask) = []

-- a plugin's callback that changes nothing and asks nothing, whatever its call
pub record IsPlain (engine : Engine) (r : Registration) : Type 0 where
  pub of_plugin : (r.callback == 0) ≡ false
  pub no_change : (call : Call) → (reply_to_call engine r.callback call).changes ≡ []
  pub no_ask : (call : Call) → is_answer (reply_to_call engine r.callback call).next ≡ true

-- what a callback makes of the value, by the first arguments that it accepts
abbrev pub answer_to : Engine → Text → List Text → Text → Registration → Text
answer_to engine hook args value r = answer_in (reply_to_call engine r.callback (hook_call hook (take r.accepted (value ∷ args)))).next

-- the value after one callback and another
abbrev pub value_after_callbacks : Engine → Text → List Text → Text → List Registration → Text
value_after_callbacks engine hook args = fold (answer_to engine hook args)

abbrev pub result_of : Outcome Text → Option Text
result_of (Ended world value) = Some value
result_of (Fault why) = None

-- the callbacks of a hook fold their answers, if they are plain and there are calls for all of them
abbrev pub PlainFold : Engine → World → Text → Text → List Text → Type 0
PlainFold engine world hook value args =
    is_hook_name hook ≡ true
    → AllByRecursion (IsPlain engine) (registrations world.table hook)
    → length (registrations world.table hook) ≤ world.calls
    → result_of (outcome_of (filtered engine world hook value args))
    ≡ Some (value_after_callbacks engine hook args value (by_priority (registrations world.table hook)))
