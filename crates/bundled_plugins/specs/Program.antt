-- The plugins of a program, and what their callbacks are stated to reply, by their numbers.
use Rattle.std.specs.Prelude.{ℕ, Bool, true, false, nat_lt, List, [], ◌∷◌, ◌++◌, flat_map, if◌then◌else◌}
use Rattle.hook_changes.specs.declared.reply.Call.{Call}
use Rattle.hook_changes.specs.declared.reply.Reply.{Reply}
use Rattle.callback_store.specs.Shape.{Shape}
use Rattle.bundled_plugins.specs.Bundle as bundled
use Rattle.bundled_plugins.specs.Replies as bundled_replies
use Rattle.snippets.specs.Snippets as snippets

-- the bundle, and after it `snippets`, if that is asked for
abbrev pub plugins : (with_snippets : Bool) → List Shape
plugins false = bundled.bundle
plugins true = bundled.bundle ++ snippets.snippets ∷ []

-- the numbers of all callbacks, plugin by plugin
abbrev pub numbers : (with_snippets : Bool) → List ℕ
numbers with_snippets = flat_map (λ plugin. plugin.callbacks) (plugins with_snippets)

-- what the callback with that number replies: one below 500 is the bundle's
unfoldable pub says : ℕ → Call → Reply
says number call = if nat_lt number 500 then bundled_replies.says number call else snippets.says number call
