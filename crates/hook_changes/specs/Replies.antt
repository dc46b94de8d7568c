-- The common forms of a reply.
use Rattle.std.specs.Prelude.{ℕ, List, []}
use Rattle.hook_changes.specs.declared.reply.Ask.{Ask}
use Rattle.hook_changes.specs.declared.reply.Change.{Change}
use Rattle.hook_changes.specs.declared.reply.Reply.{Reply}
use Rattle.hook_changes.specs.declared.reply.Then.TheVariants as next

-- a reply that answers a text, and does nothing else
abbrev pub answers_text : List ℕ → Reply
answers_text text = record { changes = []; echo = []; next = next.Answer text }

-- a reply that asks, and does nothing else
abbrev pub asks : Ask → Reply
asks ask = record { changes = []; echo = []; next = next.Ask ask }

-- a reply that changes what is registered, and answers a text
abbrev pub changes_and_answers : List Change → List ℕ → Reply
changes_and_answers changes text = record { changes = changes; echo = []; next = next.Answer text }

-- a reply that prints a text, and answers another
abbrev pub prints_and_answers : List ℕ → List ℕ → Reply
prints_and_answers echo text = record { changes = []; echo = echo; next = next.Answer text }

-- a reply that changes what is registered, and asks
abbrev pub changes_and_asks : List Change → Ask → Reply
changes_and_asks changes ask = record { changes = changes; echo = []; next = next.Ask ask }
