-- What the test callbacks are stated to reply, by their numbers.
use Rattle.std.specs.Prelude.{ℕ, ℤ, pos, ◌+◌, List, [], ◌∷◌, ◌++◌, length, codes, nat_lt, if◌then◌else◌}
use Rattle.hook_changes.specs.declared.reply.Call.{Call}
use Rattle.hook_changes.specs.declared.reply.Change.{Change}
use Rattle.hook_changes.specs.declared.reply.Reply.{Reply}
use Rattle.hook_changes.specs.declared.reply.Change.TheVariants.{Add}
use Rattle.hook_changes.specs.Replies.{changes_and_answers}

abbrev pub first_argument : List (List ℕ) → List ℕ
first_argument [] = []
first_argument (x ∷ xs) = x

-- 11 plus the length of the value, or the largest priority if that is smaller
abbrev pub next_priority : List ℕ → ℤ
next_priority value = if nat_lt 2147483636 (length value) then pos 2147483647 else pos (11 + length value)

-- a callback adds itself at a larger priority while the value has fewer bytes than its number says
abbrev pub changes : ℕ → List ℕ → List Change
changes number value = if nat_lt (length value) number then Add (codes "the_title") (next_priority value) number 1 ∷ [] else []

-- and it answers the value with a letter after it
abbrev pub climbs : ℕ → List ℕ → Reply
climbs number value = changes_and_answers (changes number value) (value ++ codes "x")

unfoldable pub says : ℕ → Call → Reply
says number call = climbs number (first_argument call.args)
