-- What holds in each world that a piece of work goes through, and at its end.
use Rattle.std.specs.Prelude.{◌≡◌, ◌≤◌, ℕ, Bool, IsTrue, ◌&&◌, List, [], ◌∷◌, length}
use Rattle.std.specs.List.{list_all, AllByRecursion}
use Rattle.callback_store.specs.Shape.{Shape, is_held_by}
use Rattle.hook_meaning.specs.World.{World, is_active}
use Rattle.plain_data.specs.Texts.{Text}
use Rattle.hook_meaning.specs.Trace.{Trace, Done, Refused, Turn, Ended, outcome_of, turns_of}
use Rattle.hook_meaning.specs.Meaning.{Engine, invoke, action_pass}

-- the world after each invocation, and the last one
abbrev pub worlds_of : {A : Type 0} → Trace A → List World
worlds_of (Done world x) = world ∷ []
worlds_of (Refused fault) = []
worlds_of (Turn event rest) = event.world ∷ worlds_of rest

-- the fact holds in each of them
abbrev pub Throughout : {A : Type 0} → (World → Type 0) → Trace A → Type 0
Throughout Fact trace = AllByRecursion Fact (worlds_of trace)

-- each registration is of an active callback, and each handler of a tag is one of an active plugin
abbrev pub names_active : List Shape → World → Bool
names_active plugins world =
    list_all (λ p. list_all (λ r. is_active plugins world r.callback) p.1) world.table && list_all (λ p. is_held_by plugins world.active p.1) world.tags

-- in no world of the work a callback of an inactive plugin is registered
abbrev pub KeepsOutInactive : {A : Type 0} → List Shape → Trace A → Type 0
KeepsOutInactive plugins trace = Throughout (λ w. IsTrue (names_active plugins w)) trace

-- the work makes no more invocations than calls were left
abbrev pub IsWithinCalls : {A : Type 0} → ℕ → Trace A → Type 0
IsWithinCalls calls trace = length (turns_of trace) ≤ calls

-- the work goes at most 32 levels deep
abbrev pub IsWithinDepth : {A : Type 0} → Trace A → Type 0
IsWithinDepth trace = Throughout (λ w. w.depth ≤ 32) trace

-- an action has no other result than empty text
abbrev pub GivesNothing : Engine → World → Text → List Text → Type 0
GivesNothing engine world hook args = (later : World) (text : Text) → outcome_of (action_pass (invoke engine) world hook args) ≡ Ended later text → text ≡ []
