-- What the test callbacks are stated to reply, by their numbers.
use Rattle.std.specs.Prelude.{ℕ, ℤ, Bool, pos, ◌+◌, ◌==◌, ◌&&◌, ◌||◌, List, [], ◌∷◌, ◌++◌, length, codes, nat_lt, None, if◌then◌else◌}
use Rattle.hook_changes.specs.declared.reply.Call.{Call}
use Rattle.hook_changes.specs.declared.reply.Change.{Change}
use Rattle.hook_changes.specs.declared.reply.Reply.{Reply}
use Rattle.hook_changes.specs.declared.reply.Change.TheVariants.{Add, Remove, RemoveAll}
use Rattle.hook_changes.specs.Replies.{changes_and_answers}
use Rattle.bundled_plugins.specs.Replies.{says}
use Rattle.plain_data.specs.Texts.{Text}
use Rattle.hook_meaning.specs.Meaning.{first_or_empty}
use Rattle.test_engine.specs.Asking.{asking}

abbrev pub the_title : List ℕ
the_title = codes "the_title"

-- 104 and 107, which run at 10 and the length of their value, add themselves one priority higher: 104 while the value is
-- shorter than 3 bytes, and 107 always
abbrev pub climbs : ℕ → List ℕ → Bool
climbs number value = number == 107 || number == 104 && nat_lt (length value) 3

abbrev pub next_priority : List ℕ → ℤ
next_priority value = if nat_lt 2147483636 (length value) then pos 2147483647 else pos (11 + length value)

-- what a callback changes, given a value: 101 takes out all callbacks of the hook, and 105 takes itself out at 10
abbrev pub changes : ℕ → List ℕ → List Change
changes number value =
    if number == 101 then RemoveAll the_title None ∷ [] else
    (if number == 105 then Remove the_title (pos 10) 105 ∷ [] else
    (if climbs number value then Add the_title (next_priority value) number 1 ∷ [] else []))

-- what it appends to the value
abbrev pub letter : ℕ → List ℕ
letter number =
    if number == 101 then codes "a" else
    (if number == 102 then codes "b" else
    (if number == 103 then codes "c" else
    (if number == 104 || number == 107 then codes "x" else codes "r")))

-- a reply that changes what is registered, and answers the value with a letter after it
abbrev pub letter_reply : ℕ → Text → Reply
letter_reply number value = changes_and_answers (changes number value) (value ++ letter number)

-- what the callback with that number replies; below 100 they are those of the bundle
unfoldable pub tested : ℕ → Call → Reply
tested number call =
    if nat_lt number 100 then says number call else
    (if nat_lt 200 number then asking number call else letter_reply number (first_or_empty call.args))
