-- The plugin `exclaim`: its load list, and what its callback is stated to reply.
use Rattle.std.specs.Prelude.{ℕ, pos, List, [], ◌∷◌, ◌++◌, codes}
use Rattle.plain_data.specs.Texts.{Text}
use Rattle.hook_changes.specs.declared.reply.Call.{Call}
use Rattle.hook_changes.specs.declared.reply.Reply.{Reply}
use Rattle.hook_changes.specs.declared.reply.Then.TheVariants as next
use Rattle.hook_changes.specs.declared.reply.Change.{Change}
use Rattle.hook_changes.specs.declared.reply.Change.TheVariants.{Add}
use Rattle.callback_store.specs.Shape.{Shape}
use Rattle.example_exclaim.specs.declared.Exclaim.{Exclaim}

-- callback 1001 runs on the_title at priority 10 and wants one argument, the title
abbrev pub load : List Change
load = Add (codes "the_title") (pos 10) 1001 1 ∷ []

abbrev pub exclaim : Shape
exclaim = record { name = codes "exclaim"; load = load; callbacks = 1001 ∷ [] }

-- the number by which the callback is known
abbrev pub number_of : Exclaim → ℕ
number_of callback = 1001

-- the title is the first argument
abbrev pub title_in : List Text → Text
title_in [] = []
title_in (title ∷ more) = title

-- what the callback replies: the title with a mark after it; it changes nothing and prints nothing
abbrev pub says : ℕ → Call → Reply
says number call = record { changes = []; echo = []; next = next.Answer (title_in call.args ++ codes "!") }
