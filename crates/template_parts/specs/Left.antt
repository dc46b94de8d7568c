-- What a page has still to do.
use Rattle.std.specs.Prelude.{◌≡◌, ℕ, zero, suc, ◌+◌, ◌*◌, ◌<◌, List, length, Option, None, Some, Result, Ok, Err, OnOk, IfOk, IfErr, ⊤}
use Rattle.hook_changes.specs.declared.reply.Call.{Call}
use Rattle.hook_changes.specs.declared.reply.Reply.{Reply}
use Rattle.site_records.specs.declared.post.Post.{Post}
use Rattle.template_trees.specs.declared.tree.Item.{Item}
use Rattle.plain_data.specs.Texts.{Text}
use Rattle.hook_meaning.specs.World.{World}
use Rattle.hook_meaning.specs.declared.fault.RunFault.{RunFault}
use Rattle.hook_meaning.specs.declared.fault.RunFault.TheVariants.{OutOfMemory}
use Rattle.hook_machine.specs.declared.run.frames.Pace.{Pace}
use Rattle.hook_machine.specs.declared.run.Run.{Run}
use Rattle.hook_meaning.specs.Trace.{Event, Trace, Done, Turn, and_then}
use Rattle.hook_meaning.specs.Meaning.{Engine}
use Rattle.hook_machine.specs.Moves.{Leads, LeadsOn}
use Rattle.hook_machine.specs.Runs.{world_of, fault_of, engine_of, left_of, IsIdle, IsReady}
use Rattle.page_escapes.specs.Escapes.{ends_escaped, html_escaped}
use Rattle.template_parts.specs.declared.settings.Settings.{Settings}
use Rattle.template_parts.specs.declared.item.Shown.{Shown}
use Rattle.template_parts.specs.declared.item.Shown.TheVariants as shown
use Rattle.template_parts.specs.declared.item.Hand.{Hand}
use Rattle.template_parts.specs.declared.item.Hand.TheVariants.{Printed, Dropped}
use Rattle.template_parts.specs.declared.steps.Step.{Step}
use Rattle.template_parts.specs.declared.moves.PageRest.{PageRest}
use Rattle.template_parts.specs.declared.moves.Stop.{Stop}
use Rattle.template_parts.specs.declared.moves.Stop.TheVariants as stop
use Rattle.template_parts.specs.Pages.{Work, Placed, print_text, each, item_pass, placed_pass, page_pass}
use Rattle.template_parts.specs.Places.{item_at, post_at, items_left}

-- a value as it is printed: unchanged, or escaped
abbrev pub shown_as : Shown → Text → Text
shown_as shown.Plain text = text
shown_as shown.HtmlEscaped text = html_escaped text
shown_as shown.EndsEscaped text = ends_escaped text

-- what becomes of a job's result
abbrev pub handed_on : Hand → World → Text → Work
handed_on (Printed shown) world text = print_text world (shown_as shown text)
handed_on Dropped world text = Done world tt

-- the job that an item began, whose result is handed on; or nothing, if it began none
abbrev pub job_or_nothing : World → Trace Text → Option Hand → Work
job_or_nothing world left None = Done world tt
job_or_nothing world left (Some hand) = and_then left (λ later x. handed_on hand later x)

-- an item, if there is one
abbrev pub item_or_nothing : Engine → Settings → World → Option Post → Option Item → Work
item_or_nothing engine settings world post None = Done world tt
item_or_nothing engine settings world post (Some item) = item_pass engine settings post world item

-- the item of a step
abbrev pub step_pass : Engine → Settings → List Post → World → Step → Work
step_pass engine settings posts world step = item_or_nothing engine settings world (post_at posts step.post) (item_at settings step.place)

-- some work, and then the items left
abbrev pub then_items : Engine → Settings → Work → List Placed → Work
then_items engine settings first items = and_then first (λ later nothing. each (placed_pass engine settings) later items)

-- the job under way, and then the steps
abbrev pub ahead_of : Engine → Settings → List Post → World → Trace Text → PageRest → Work
ahead_of engine settings posts world left ahead = then_items engine settings (job_or_nothing world left ahead.hand) (items_left settings posts ahead.steps)

-- what a page has still to do: all of it, before its first turn
abbrev pub left_at : Engine → Settings → List Post → World → Trace Text → Option PageRest → Work
left_at engine settings posts world left None = page_pass engine settings posts world
left_at engine settings posts world left (Some ahead) = ahead_of engine settings posts world left ahead

abbrev pub hand_in : Option PageRest → Option Hand
hand_in None = None
hand_in (Some ahead) = ahead.hand

module _ {S : Type 0} where
  -- the work is that of the job that was begun, or it is done
  abbrev pub IsBegun : Engine → Work → Run S → Option Hand → Type 0
  IsBegun engine work run hand = (work ≡ job_or_nothing (world_of run) (left_of engine run) hand) × (fault_of run ≡ None) × (hand ≡ None → IsIdle run)

  -- a run has begun some work, as `IsBegun` says, and has the plugins that it had; or memory ran out
  pub record Begins (says : ℕ → Call → Reply) (number : S → ℕ) (before : Run S) (result : Result (Option Hand) RunFault) (after : Run S)
      (work : Engine → World → Work) : Type 0 where
    pub begun : IfOk result (IsBegun (engine_of says number before) (work (engine_of says number before) (world_of before)) after)
    pub memory : IfErr result (λ fault. fault ≡ OutOfMemory)
    pub engine : engine_of says number after ≡ engine_of says number before

  -- the same, if the work may have led to that, after invocations that were passed over
  abbrev pub IsBegunBy : Pace → Engine → Work → Run S → Option Hand → Type 0
  IsBegunBy pace engine work run hand =
      Leads pace work (job_or_nothing (world_of run) (left_of engine run) hand) × (fault_of run ≡ None) × (hand ≡ None → IsIdle run)

  -- a run has begun some work, as `IsBegunBy` says, and has the plugins that it had; or memory ran out
  pub record BeginsBy (pace : Pace) (says : ℕ → Call → Reply) (number : S → ℕ) (before : Run S) (result : Result (Option Hand) RunFault) (after : Run S)
      (work : Engine → World → Work) : Type 0 where
    pub begun : IfOk result (IsBegunBy pace (engine_of says number before) (work (engine_of says number before) (world_of before)) after)
    pub memory : IfErr result (λ fault. fault ≡ OutOfMemory)
    pub engine : engine_of says number after ≡ engine_of says number before

  -- a run has done some work without a callback, and has the plugins that it had; or memory ran out
  pub record Finishes (says : ℕ → Call → Reply) (number : S → ℕ) (before : Run S) (result : Result (Unit {0}) RunFault) (after : Run S)
      (work : World → Work) : Type 0 where
    pub done : OnOk result (work (world_of before) ≡ Done (world_of after) tt)
    pub ready : OnOk result (IsReady after)
    pub memory : IfErr result (λ fault. fault ≡ OutOfMemory)
    pub engine : engine_of says number after ≡ engine_of says number before

  -- what is left of a page with a run
  abbrev pub run_left : Engine → Settings → List Post → Run S → PageRest → Work
  run_left engine settings posts run ahead = ahead_of engine settings posts (world_of run) (left_of engine run) ahead

  -- if the page stops since nothing is left, no job is under way
  abbrev pub IsIdleAtEnd : Result Stop RunFault → Run S → Type 0
  IsIdleAtEnd (Ok stop.Over) run = IsIdle run
  IsIdleAtEnd (Ok stop.Turned) run = ⊤
  IsIdleAtEnd (Err fault) run = ⊤

  -- the same after a move, at which the page may go on
  abbrev pub IsIdleIfOver : Result (Option Stop) RunFault → Run S → Type 0
  IsIdleIfOver (Ok (Some stop)) run = IsIdleAtEnd (Ok stop) run
  IsIdleIfOver (Ok None) run = ⊤
  IsIdleIfOver (Err fault) run = ⊤

-- the work of a page that stops: the invocation that was made, and then what is left now; or none
abbrev pub work_of_stop : Stop → Event → Work → Work
work_of_stop stop.Turned made now = Turn made now
work_of_stop stop.Over made now = Done made.world tt

-- the work of a page after a move: what is left now, if it doesn't stop
abbrev pub work_of_move : Option Stop → Event → Work → Work
work_of_move None made now = now
work_of_move (Some stop) made now = work_of_stop stop made now

-- what was left leads to what is left after the move; or to the fault; or memory ran out
abbrev pub Moves : Pace → Work → Result (Option Stop) RunFault → Event → Work → Type 0
Moves pace left result made now = LeadsOn pace left (λ move. work_of_move move made now) result

-- what was left leads to the work of a page that stops; or to the fault; or memory ran out
abbrev pub Stops : Pace → Work → Result Stop RunFault → Event → Work → Type 0
Stops pace left result made now = LeadsOn pace left (λ stop. work_of_stop stop made now) result

-- how many moves may be left without an invocation: each step is begun and ended
abbrev pub moves_left : PageRest → ℕ
moves_left ahead = under_way ahead.hand + 2 * length ahead.steps
  where
    under_way : Option Hand → ℕ
    under_way None = 0
    under_way (Some hand) = 1

-- if the page doesn't stop, fewer moves are left than before
abbrev pub Shortens : Result (Option Stop) RunFault → PageRest → PageRest → Type 0
Shortens (Ok None) before later = moves_left later < moves_left before
Shortens (Ok (Some stop)) before later = ⊤
Shortens (Err fault) before later = ⊤

-- how many moves may be left after one: none, if the page stops
abbrev pub moves_after : Option Stop → PageRest → ℕ
moves_after None ahead = suc (moves_left ahead)
moves_after (Some stop) ahead = zero
