-- When two bundles of plugins are alike for who looks at some plugins alone.
use Rattle.std.specs.Prelude.{◌≡◌, ℕ, Bool, IsTrue, List, [], map, if◌then◌else◌, bytes_eq}
use Rattle.std.specs.List.{list_any, list_all}
use Rattle.hook_changes.specs.declared.reply.Call.{Call}
use Rattle.callback_store.specs.Shape.{Shape, is_held_by, by_name}
use Rattle.plain_data.specs.Texts.{Text}
use Rattle.hook_meaning.specs.Meaning.{Engine}

-- whether the name is one of these
abbrev pub is_among : List Text → Text → Bool
is_among names name = list_any (bytes_eq name) names

-- whether each of the others is one of these names
abbrev pub are_among : List Text → List Text → Bool
are_among names others = list_all (is_among names) others

-- a plugin as it is seen by who looks at the plugins of these names: of any other its name alone
abbrev pub seen_of : List Text → Shape → Shape
seen_of names plugin = record {
  name = plugin.name;
  load = if is_among names plugin.name then plugin.load else [];
  callbacks =
      if is_among names plugin.name then plugin.callbacks else [];
}

-- Two bundles have plugins of the same names, and those of these names have the same load lists, callbacks of the same numbers
-- and the same replies.
pub record AgreeOn (names : List Text) (one other : Engine) : Type 0 where
  pub plugins : map (seen_of names) (by_name one.plugins) ≡ map (seen_of names) (by_name other.plugins)
  pub replies : (callback : ℕ) (call : Call) → IsTrue (is_held_by one.plugins names callback) → one.says callback call ≡ other.says callback call
