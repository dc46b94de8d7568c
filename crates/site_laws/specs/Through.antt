-- What a site goes through, line by line.
use Rattle.std.specs.Prelude.{ℕ, IsTrue, List, [], ◌∷◌}
use Rattle.std.specs.List.{AllByRecursion}
use Rattle.plain_data.specs.Texts.{Text}
use Rattle.site_replies.specs.Reply.{ReplyData}
use Rattle.site_store.specs.Stored.{active_of}
use Rattle.site_program.specs.State.{State}
use Rattle.hook_meaning.specs.Agreement.{are_among}

-- what is left after each line, and the reply to it
abbrev pub through : {X : Type 0} → (X → List ℕ → X × ReplyData) → X → List (List ℕ) → List (X × ReplyData)
through steps x [] = []
through steps x (line ∷ lines) = steps x line ∷ through steps (steps x line).0 lines

-- after each line the names of the active plugins are among these
abbrev pub StaysAmong : List Text → List (State × ReplyData) → Type 0
StaysAmong names later = AllByRecursion (λ s. IsTrue (are_among names (active_of s.0.rows))) later
