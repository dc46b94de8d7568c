-- What is known of plugins apart from what their callbacks reply.
use Rattle.std.specs.Prelude.{ℕ, Bool, ◌&&◌, ◌==◌, List, map, Option, find, option_map, bytes_eq}
use Rattle.std.specs.Cmp.Lexicographic.{slice_cmp}
use Rattle.std.specs.List.{list_any}
use Rattle.std.specs.List.Sorted.{IsSortedByKey}
use Rattle.std.specs.Ordering.{is_lt, nat_cmp}
use Rattle.hook_changes.specs.declared.reply.Change.{Change}
use Rattle.callback_store.specs.Sorting.{in_order}
use Rattle.callback_store.specs.declared.plugins.Plugin.{Plugin}
use Rattle.callback_store.specs.declared.plugins.Plugins.{Plugins}

-- a plugin, by its name, its load list and the numbers of its callbacks
pub record Shape : Type 0 where
  pub name : List ℕ
  pub load : List Change
  pub callbacks : List ℕ

-- a plugin as contracts see it: its name, its load list and its callbacks' numbers
abbrev pub shape_of : {S : Type 0} → (S → ℕ) → Plugin S → Shape
shape_of number plugin = record { name = plugin.name; load = plugin.load; callbacks = map number plugin.callbacks }

-- the same for all plugins
abbrev pub shapes_of : {S : Type 0} → (S → ℕ) → Plugins S → List Shape
shapes_of number plugins = map (shape_of number) plugins.list

-- no name comes before a smaller one, by bytes
abbrev pub AreInOrder : List Shape → Type 0
AreInOrder shapes = IsSortedByKey (λ s. s.name) (slice_cmp nat_cmp) shapes

-- whether a plugin has the smaller name, by bytes
abbrev pub comes_before : Shape → Shape → Bool
comes_before s t = is_lt (slice_cmp nat_cmp s.name t.name)

-- by name, in the order of bytes
abbrev pub by_name : List Shape → List Shape
by_name shapes = in_order comes_before shapes

-- whether a plugin has a callback
abbrev pub has_callback : ℕ → Shape → Bool
has_callback callback shape = list_any (λ c. c == callback) shape.callbacks

-- whether some plugin has the callback
abbrev pub is_held : List Shape → ℕ → Bool
is_held shapes callback = list_any (has_callback callback) shapes

-- whether a plugin of one of these names has the callback
abbrev pub is_held_by : List Shape → List (List ℕ) → ℕ → Bool
is_held_by shapes names callback = list_any (λ p. list_any (bytes_eq p.name) names && has_callback callback p) shapes

-- the name of the plugin that has the callback
abbrev pub owner : List Shape → ℕ → Option (List ℕ)
owner shapes callback = option_map (λ s. s.name) (find (has_callback callback) shapes)

-- the load list of the plugin of that name
abbrev pub load_of : List Shape → List ℕ → Option (List Change)
load_of shapes name = option_map (λ s. s.load) (find (λ s. bytes_eq s.name name) shapes)
