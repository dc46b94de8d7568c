-- A page that is put aside as contracts see it.
use Rattle.std.specs.Prelude.{◌≡◌, ◌≢◌, ℕ, Result, Ok, Err, ⊤}
use Rattle.hook_meaning.specs.declared.fault.RunFault.{RunFault}
use Rattle.hook_meaning.specs.declared.fault.RunFault.TheVariants.{OutOfMemory}
use Rattle.hook_meaning.specs.Trace.{Event, Turn, Fault, outcome_of}
use Rattle.hook_meaning.specs.Meaning.{Engine}
use Rattle.hook_machine.specs.Runs.{paused_world, paused_event, paused_left}
use Rattle.template_parts.specs.declared.open_page.OpenPage.{OpenPage}
use Rattle.template_parts.specs.declared.open_page.Turned.{Turned}
use Rattle.template_parts.specs.declared.open_page.Turned.TheVariants.{Open, Closed}
use Rattle.template_parts.specs.Pages.{Work, IsPage}
use Rattle.template_parts.specs.Page.{IsAfter, EndsWithin}
use Rattle.template_parts.specs.Left.{left_at}

-- the status that the page has
abbrev pub status_of : OpenPage → ℕ
status_of page = page.found.status

-- what the page has still to do
abbrev pub open_left : Engine → OpenPage → Work
open_left engine page = left_at engine page.settings page.found.posts (paused_world page.run) (paused_left engine page.run) page.ahead

-- the invocation that its last turn made
abbrev pub event_of : OpenPage → Event
event_of page = paused_event page.run

-- what came of `count` turns: all were made, and the page is open; or it was printed at one of them; or, if memory didn't
-- run out, it was refused at one of them
abbrev pub GoesOn : Engine → ℕ → OpenPage → Result Turned RunFault → Type 0
GoesOn engine count page (Ok (Open later)) = IsAfter count (open_left engine page) (open_left engine later) × (status_of later ≡ status_of page)
GoesOn engine count page (Ok (Closed status bytes)) =
    EndsWithin count (open_left engine page) × IsPage (open_left engine page) bytes.items × (status ≡ status_of page)
GoesOn engine count page (Err fault) = fault ≢ OutOfMemory → EndsWithin count (open_left engine page) × (outcome_of (open_left engine page) ≡ Fault fault)

-- if the page is open after one turn, what was left is the invocation that the turn made, and then what is left now
abbrev pub MakesOne : Engine → OpenPage → Result Turned RunFault → Type 0
MakesOne engine page (Ok (Open later)) = open_left engine page ≡ Turn (event_of later) (open_left engine later)
MakesOne engine page (Ok (Closed status bytes)) = ⊤
MakesOne engine page (Err fault) = ⊤
