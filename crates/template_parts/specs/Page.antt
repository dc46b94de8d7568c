-- A page as contracts see it: what was found, the site's settings, and what it has still to do.
use Rattle.std.specs.Prelude.{◌≡◌, ◌≢◌, ℕ, ◌+◌, ◌<◌, length, Option, None, Result, Ok, Err, ⊤}
use Rattle.plain_data.specs.Texts.{Text}
use Rattle.hook_meaning.specs.World.{World}
use Rattle.hook_machine.specs.declared.run.Run.{Run}
use Rattle.hook_meaning.specs.declared.fault.RunFault.{RunFault}
use Rattle.hook_meaning.specs.declared.fault.RunFault.TheVariants.{OutOfMemory}
use Rattle.hook_meaning.specs.Trace.{Event, Done, Refused, Turn, Fault, outcome_of, turns_of}
use Rattle.hook_meaning.specs.Meaning.{Engine}
use Rattle.hook_machine.specs.Outcomes.{UnlessOutOfMemory}
use Rattle.hook_machine.specs.declared.run.frames.Pace.{Pace}
use Rattle.hook_machine.specs.Moves.{Leads}
use Rattle.hook_machine.specs.Runs.{world_of, fault_of, left_of, IsIdle}
use Rattle.site_records.specs.declared.found.Found.{Found}
use Rattle.template_parts.specs.declared.settings.Settings.{Settings}
use Rattle.template_parts.specs.declared.page.Page.{Page}
use Rattle.template_parts.specs.declared.page.PageTurn.{PageTurn}
use Rattle.template_parts.specs.declared.page.PageTurn.TheVariants as turn
use Rattle.template_parts.specs.Pages.{Work, IsPage}
use Rattle.template_parts.specs.Left.{left_at, hand_in}

module _ {S : Type 0} where
  abbrev pub found_in : Page S → Found
  found_in page = page.found

  abbrev pub settings_in : Page S → Settings
  settings_in page = page.settings

  abbrev pub run_in : Page S → Run S
  run_in page = page.run

  -- the fault that the page has returned, if it has
  abbrev pub refusal_of : Page S → Option RunFault
  refusal_of page = page.fault

  -- what a page has still to do
  abbrev pub page_left : Engine → Page S → Work
  page_left engine page = left_at engine page.settings page.found.posts (world_of page.run) (left_of engine page.run) page.ahead

  -- the page can go on, unless it has returned a fault: its run can, and no job is under way but one that it waits for
  abbrev pub CanGoOn : Page S → Type 0
  CanGoOn page = refusal_of page ≡ None → (fault_of page.run ≡ None) × (hand_in page.ahead ≡ None → IsIdle page.run)

  -- what the site said of the page is as before
  abbrev pub IsSamePage : Page S → Page S → Type 0
  IsSamePage page other = (page.found ≡ other.found) × (page.settings ≡ other.settings)

-- nothing is left, and this is the page's text
pub record IsDone (left : Work) (text : Text) : Type 0 where
  pub world : World
  pub done : left ≡ Done world tt
  pub whole : text ≡ world.output

-- what was left of a page is the invocation that was made, and then what is left now; or nothing
abbrev pub TurnsTo : Work → PageTurn → Event → Work → Type 0
TurnsTo left turn.More made now = left ≡ Turn made now
TurnsTo left (turn.Done status bytes) made now = IsDone left bytes.items

-- the same; or it is the fault; or memory ran out
abbrev pub Turns : Work → Result PageTurn RunFault → Event → Work → Type 0
Turns left result made now = UnlessOutOfMemory result (λ turn. TurnsTo left turn made now) (λ fault. left ≡ Refused fault)

-- the same of a page that may pass invocations over
pub record IsDoneBy (pace : Pace) (left : Work) (text : Text) : Type 0 where
  pub world : World
  pub done : Leads pace left (Done world tt)
  pub whole : text ≡ world.output

-- what was left of a page leads to the invocation that was made, and then to what is left now; or to nothing
abbrev pub GoesTo : Pace → Work → PageTurn → Event → Work → Type 0
GoesTo pace left turn.More made now = Leads pace left (Turn made now)
GoesTo pace left (turn.Done status bytes) made now = IsDoneBy pace left bytes.items

-- the same; or it leads to the fault; or memory ran out
abbrev pub Goes : Pace → Work → Result PageTurn RunFault → Event → Work → Type 0
Goes pace left result made now = UnlessOutOfMemory result (λ turn. GoesTo pace left turn made now) (λ fault. Leads pace left (Refused fault))

-- what is left after `count` turns: the page still ends as it did, and has `count` invocations less to make
pub record IsAfter (count : ℕ) (left now : Work) : Type 0 where
  pub ends : outcome_of left ≡ outcome_of now
  pub turns : length (turns_of left) ≡ count + length (turns_of now)

-- the page ended at one of `count` turns
abbrev pub EndsWithin : ℕ → Work → Type 0
EndsWithin count left = length (turns_of left) < count

-- what came of `count` turns: all were made, and this is left of the page now; or it was printed at one of them; or, if
-- memory didn't run out, it was refused at one of them
abbrev pub TurnsBy : ℕ → Work → Result PageTurn RunFault → Work → Type 0
TurnsBy count left (Ok turn.More) now = IsAfter count left now
TurnsBy count left (Ok (turn.Done status bytes)) now = EndsWithin count left × IsPage left bytes.items
TurnsBy count left (Err fault) now = fault ≢ OutOfMemory → EndsWithin count left × (outcome_of left ≡ Fault fault)

-- if there is more to do after one turn, what was left is the invocation that it made, and then what is left now
abbrev pub TurnsOnce : Work → Result PageTurn RunFault → Event → Work → Type 0
TurnsOnce left (Ok turn.More) made now = left ≡ Turn made now
TurnsOnce left (Ok (turn.Done status bytes)) made now = ⊤
TurnsOnce left (Err fault) made now = ⊤

abbrev pub HasStatus : ℕ → PageTurn → Type 0
HasStatus status turn.More = ⊤
HasStatus status (turn.Done given bytes) = given ≡ status
