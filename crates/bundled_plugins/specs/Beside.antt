-- A program's plugins beside an author's own, whose callbacks have numbers from 1,000 on.
use Rattle.std.specs.Prelude.{ℕ, ◌≤◌, List, nat_lt, if◌then◌else◌}
use Rattle.std.specs.List.{AllByRecursion}
use Rattle.hook_changes.specs.declared.reply.Call.{Call}
use Rattle.hook_changes.specs.declared.reply.Reply.{Reply}
use Rattle.callback_store.specs.Shape.{Shape}
use Rattle.bundled_plugins.specs.Program as program
use Rattle.bundled_plugins.specs.declared.beside.Beside.{Beside}
use Rattle.bundled_plugins.specs.declared.beside.Beside.TheVariants.{Own, Given}

-- the number of a callback, by that of an author's own
abbrev pub number_of : {P : Type 0} → (P → ℕ) → Beside P → ℕ
number_of number (Own own) = number own
number_of number (Given id) = id

-- what the callback with that number replies, by what an author's own do
unfoldable pub says : (ℕ → Call → Reply) → ℕ → Call → Reply
says own number call = if nat_lt number 1000 then program.says number call else own number call

-- the plugins have an author's own callbacks alone
abbrev pub AreOwn : List Shape → Type 0
AreOwn plugins = AllByRecursion (λ plugin. AllByRecursion (λ number. 1000 ≤ number) plugin.callbacks) plugins
