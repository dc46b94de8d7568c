-- Two small bundles that agree on one plugin, and what the passes of a title come to under them.
use Rattle.std.specs.Prelude.{ℕ, pos, ◌==◌, List, [], ◌∷◌, ◌++◌, if◌then◌else◌, codes, Result}
use Rattle.hook_changes.specs.declared.reply.Call.{Call}
use Rattle.hook_changes.specs.declared.reply.Reply.{Reply}
use Rattle.hook_changes.specs.declared.reply.Change.TheVariants.{Add}
use Rattle.hook_changes.specs.Replies.{answers_text}
use Rattle.callback_store.specs.Shape.{Shape}
use Rattle.hook_meaning.specs.declared.fault.RunFault.{RunFault}
use Rattle.plain_data.specs.Texts.{Text}
use Rattle.hook_meaning.specs.World.{fresh, loaded}
use Rattle.hook_meaning.specs.Meaning.{Engine, filtered}
use Rattle.hook_meaning.specs.Worked.{the_title, value_of_call, result_of}

-- loads a callback of its own, and one that another plugin has in one of the bundles
abbrev pub borrow : Shape
borrow = record { name = codes "borrow"; load = Add the_title (pos 10) 17 1 ∷ Add the_title (pos 10) 33 1 ∷ []; callbacks = 33 ∷ [] }

abbrev pub puts : Text → ℕ → Call → Reply
puts text callback call = if 33 == callback then answers_text (value_of_call call ++ codes "b") else answers_text (value_of_call call ++ text)

abbrev pub one : Engine
one = record {
  says = puts (codes "1");
  plugins = record { name = codes "bold"; load = Add the_title (pos 10) 17 1 ∷ []; callbacks = 17 ∷ [] } ∷ borrow
      ∷ [];
}

-- here the other plugin is listed last, loads something else, and has another callback with another reply
abbrev pub other : Engine
other = record {
  says = puts (codes "!");
  plugins = borrow ∷ record { name = codes "bold"; load = Add the_title (pos 9) 18 1 ∷ []; callbacks = 18 ∷ [] }
      ∷ [];
}

-- what `the_title` makes of a value if these plugins are active
abbrev pub title : Engine → List Text → Text → Result Text RunFault
title engine active value = result_of (filtered engine (loaded engine.plugins (fresh 20 [] active)) the_title value [])
