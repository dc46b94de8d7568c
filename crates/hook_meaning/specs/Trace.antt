-- What a piece of work goes through, from one invocation to the next, and how it ends.
use Rattle.std.specs.Prelude.{ℕ, Bool, true, false, List, [], ◌∷◌}
use Rattle.hook_changes.specs.declared.reply.Call.{Call}
use Rattle.hook_meaning.specs.World.{World}
use Rattle.hook_meaning.specs.declared.fault.RunFault.{RunFault}

-- an invocation that is made: the callback, its call, and the world right after it
pub record Event : Type 0 where
  pub callback : ℕ
  pub call : Call
  pub world : World

-- a result in the last world, or a fault; or an invocation, and what follows it
pub data Trace (A : Type 0) : Type 0 where
  Done : World → A → Trace A
  Refused : RunFault → Trace A
  Turn : Event → Trace A → Trace A

-- the work, and then what is done with its result
abbrev pub and_then : {A B : Type 0} → Trace A → (World → A → Trace B) → Trace B
and_then (Done world x) next = next world x
and_then (Refused fault) next = Refused fault
and_then (Turn event rest) next = Turn event (and_then rest next)

-- the first work if a test holds, and else the second
abbrev pub work_if : {A : Type 0} → Bool → (World → Trace A) → (World → Trace A) → World → Trace A
work_if true first second world = first world
work_if false first second world = second world

-- how work ends: with a result in its last world, or by a fault
pub data Outcome (A : Type 0) : Type 0 where
  Ended : World → A → Outcome A
  Fault : RunFault → Outcome A

-- the end of a trace
abbrev pub outcome_of : {A : Type 0} → Trace A → Outcome A
outcome_of (Done world x) = Ended world x
outcome_of (Refused fault) = Fault fault
outcome_of (Turn event rest) = outcome_of rest

-- the invocations, in order
abbrev pub turns_of : {A : Type 0} → Trace A → List Event
turns_of (Done world x) = []
turns_of (Refused fault) = []
turns_of (Turn event rest) = event ∷ turns_of rest
