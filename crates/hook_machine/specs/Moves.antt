-- How a stopped run moves along what is left of it.
use Rattle.std.specs.Prelude.{◌≡◌, ℕ, zero, suc, ◌+◌, ◌≤◌, List, [], ◌∷◌, Option, None, Some, Result, Ok, Err, ⊤}
use Rattle.hook_meaning.specs.declared.fault.RunFault.{RunFault}
use Rattle.hook_machine.specs.declared.run.pieces.Matched.{Matched}
use Rattle.hook_machine.specs.declared.run.frames.Invoked.{Invoked}
use Rattle.hook_machine.specs.declared.run.frames.Pending.TheVariants.{Core}
use Rattle.hook_machine.specs.declared.run.frames.Frame.{Frame}
use Rattle.hook_machine.specs.declared.run.frames.Frame.TheVariants.{Pass, Invocation, Shortcodes}
use Rattle.hook_machine.specs.declared.run.frames.Pace.{Pace}
use Rattle.hook_machine.specs.declared.run.frames.Pace.TheVariants.{ByTurns, Through}
use Rattle.hook_machine.specs.declared.run.frames.Went.{Went}
use Rattle.hook_machine.specs.declared.run.frames.Went.TheVariants.{Answered, Waits}
use Rattle.hook_machine.specs.declared.run.frames.Move.{Move}
use Rattle.hook_machine.specs.declared.run.frames.Move.TheVariants.{Turned, Handed}
use Rattle.hook_machine.specs.declared.run.jobs.Turn.{Turn}
use Rattle.hook_machine.specs.declared.run.jobs.Turn.TheVariants as turn
use Rattle.plain_data.specs.Texts.{Text}
use Rattle.hook_meaning.specs.World.{World}
use Rattle.hook_meaning.specs.Trace.{Event, Trace, Done, Refused, Turn as turned_to}
use Rattle.hook_meaning.specs.Meaning.{Engine, hook_call}
use Rattle.hook_machine.specs.Outcomes.{UnlessOutOfMemory}
use Rattle.hook_machine.specs.Rest.{pending_left, rest, rest_with, then_rest}

-- the invocation that was just made, with the world that it left
abbrev pub made_by : World → Invoked → Event
made_by world invoked = record { callback = invoked.callback; call = invoked.call; world = world }

-- the invocation of the innermost frame; a pass is none, and says nothing
abbrev pub innermost : List Frame → Invoked
innermost (Invocation i ∷ frames) = i
innermost frames = record { callback = 0; call = hook_call [] []; pending = Core }

abbrev pub made_at : World → List Frame → Event
made_at world frames = made_by world (innermost frames)

-- what is left of a run after a move: the invocation that was made, and then its frames; or its frames, once the result
-- is handed on
abbrev pub still_left : Engine → Move → World → List Frame → Trace Text
still_left engine Turned world frames = turned_to (made_at world frames) (rest engine world frames)
still_left engine (Handed x) world frames = rest_with engine world frames x

-- these invocations, and then what is left
abbrev pub through : {A : Type 0} → List Event → Trace A → Trace A
through [] left = left
through (event ∷ events) left = turned_to event (through events left)

-- a run by turns passes no invocation over
abbrev pub MayPass : Pace → List Event → Type 0
MayPass ByTurns passed = passed ≡ []
MayPass Through passed = ⊤

-- what was left leads to what is left now, after the invocations that were passed over
pub record Leads (pace : Pace) {A : Type 0} (before now : Trace A) : Type 0 where
  pub passed : List Event
  pub may : MayPass pace passed
  pub is : before ≡ through passed now

-- what was left leads to what is left after a result; or to the fault; or memory ran out
abbrev pub LeadsOn : {A B : Type 0} → Pace → Trace A → (B → Trace A) → Result B RunFault → Type 0
LeadsOn pace left now result = UnlessOutOfMemory result (λ x. Leads pace left (now x)) (λ fault. Leads pace left (Refused fault))

-- what was left leads to what is still left after a move
pub record Moves (pace : Pace) (engine : Engine) (left : Trace Text) (result : Result Move RunFault) (world : World) (frames : List Frame) : Type 0 where
  pub leads : LeadsOn pace left (λ move. still_left engine move world frames) result

-- the same of some work in a world, whose result the frames wait for
abbrev pub Does : Pace → Engine → (Engine → Trace Text) → List Frame → Result Move RunFault → World → List Frame → Type 0
Does pace engine work frames result world now = Moves pace engine (then_rest engine (work engine) frames) result world now

-- what is left of an invocation whose callback has replied
abbrev pub went_left : Engine → World → Went → Trace Text
went_left engine world (Answered invoked text) = Done world text
went_left engine world (Waits invoked) = pending_left engine world invoked.callback invoked.call invoked.pending

-- only a run that doesn't stop is given an answer at once
abbrev pub MayAnswer : Pace → Went → Type 0
MayAnswer pace (Answered invoked text) = pace ≡ Through
MayAnswer pace (Waits invoked) = ⊤

-- the invocation that has taken its turn
abbrev pub went_by : World → Went → Event
went_by world (Answered invoked text) = made_by world invoked
went_by world (Waits invoked) = made_by world invoked

-- the invocation takes its turn, and what is left of it is what it came to; or it is the fault; or memory ran out
abbrev pub Invokes : Engine → Trace Text → Result Went RunFault → World → Type 0
Invokes engine invocation result world =
    UnlessOutOfMemory result (λ went. invocation ≡ turned_to (went_by world went) (went_left engine world went)) (λ fault. invocation ≡ Refused fault)

-- how many frames may come in place of one that is handed a result: a handler's answer goes through a filter
abbrev pub room_of_match : Option Matched → ℕ
room_of_match None = 0
room_of_match (Some matched) = 1

abbrev pub room_of : Frame → ℕ
room_of (Pass pass) = 0
room_of (Invocation i) = 0
room_of (Shortcodes pass) = room_of_match pass.hand

-- how many frames a result goes through at most, those included that may come in their place
abbrev pub weight_of : List Frame → ℕ
weight_of [] = 0
weight_of (f ∷ fs) = suc (room_of f) + weight_of fs

-- if a result is handed on, the frames have no more weight than before, or at most that much more
abbrev pub AddsWeight : ℕ → Result Move RunFault → List Frame → List Frame → Type 0
AddsWeight more (Ok Turned) olds news = ⊤
AddsWeight more (Ok (Handed x)) olds news = weight_of news ≤ weight_of olds + more
AddsWeight more (Err fault) olds news = ⊤

-- how many frames a result may still go through
abbrev pub way_of : Move → List Frame → ℕ
way_of Turned frames = zero
way_of (Handed x) frames = suc (weight_of frames)

-- what a turn leads to: the invocation that was made, and then what is left now; or the result, in the last world
abbrev pub trace_of_turn : Turn → Event → Trace Text → Trace Text
trace_of_turn turn.More made now = turned_to made now
trace_of_turn (turn.Done x) made now = Done made.world x

-- what was left is what the turn leads to; or it is the fault; or memory ran out
abbrev pub Turns : Trace Text → Result Turn RunFault → Event → Trace Text → Type 0
Turns left result made now = UnlessOutOfMemory result (λ turn. left ≡ trace_of_turn turn made now) (λ fault. left ≡ Refused fault)

-- the same of a run that may pass invocations over
abbrev pub TurnsBy : Pace → Trace Text → Result Turn RunFault → Event → Trace Text → Type 0
TurnsBy pace left result made now = LeadsOn pace left (λ turn. trace_of_turn turn made now) result

-- nothing is left of a job that is done
abbrev pub IsOver : Result Turn RunFault → List Frame → Type 0
IsOver (Ok turn.More) frames = ⊤
IsOver (Ok (turn.Done x)) frames = frames ≡ []
IsOver (Err fault) frames = ⊤
