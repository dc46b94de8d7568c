-- What a request has while it runs, and how changes change it.
use Rattle.std.specs.Prelude.{ℕ, pos, Bool, not, ◌&&◌, ◌||◌, ◌==◌, List, [], ◌∷◌, ◌++◌, flat_map, if◌then◌else◌, nat_le, codes, bytes_eq}
use Rattle.std.specs.List.{list_any}
use Rattle.plain_data.specs.Names.{is_hook_name, is_tag_name}
use Rattle.plain_data.specs.Texts.{Text}
use Rattle.hook_changes.specs.declared.reply.Change.{Change}
use Rattle.hook_changes.specs.declared.reply.Change.TheVariants.{Add, Remove, RemoveAll, AddTag, RemoveTag, RemoveAllTags}
use Rattle.callback_store.specs.Shape.{Shape, is_held_by, by_name}
use Rattle.hook_registry.specs.Named.{set_value, remove_value}
use Rattle.hook_registry.specs.Table.{Table, add, remove, remove_all}

-- the state of a running request
pub record World : Type 0 where
  -- the registrations of each hook, and the handler of each tag
  pub table : Table
  pub tags : List (Text × ℕ)
  -- how often each action was fired
  pub counts : List (Text × ℕ)
  -- the running hooks, the innermost last
  pub running : List Text
  -- how many invocations may still be made, and how deep the engine is in asks
  pub calls : ℕ
  pub depth : ℕ
  -- what was printed so far
  pub output : Text
  -- the options and the names of the active plugins, as the request began
  pub options : List (Text × Text)
  pub active : List Text

-- a callback is active if it is core's, 0, or one of a plugin whose name is active
abbrev pub is_active : List Shape → World → ℕ → Bool
is_active plugins world callback = callback == 0 || is_held_by plugins world.active callback

-- a change that names no hook, no tag or no active callback, or more than 16 arguments, does nothing
abbrev pub world_after_change : List Shape → World → Change → World
world_after_change plugins world (Add hook priority callback accepted) = record world {
  table = if is_hook_name hook && is_active plugins world callback && nat_le accepted 16
      then add world.table hook (record { priority = priority; callback = callback; accepted = accepted })
      else world.table;
}
world_after_change plugins world (Remove hook priority callback) = record world {
  table = if is_hook_name hook then remove world.table hook priority callback else world.table;
}
world_after_change plugins world (RemoveAll hook priority) = record world {
  table = if is_hook_name hook then remove_all world.table hook priority else world.table;
}
world_after_change plugins world (AddTag tag callback) = record world {
  tags = if is_tag_name tag && is_active plugins world callback && not (callback == 0)
      then set_value world.tags tag callback
      else world.tags;
}
world_after_change plugins world (RemoveTag tag) = record world { tags = remove_value world.tags tag }
world_after_change plugins world RemoveAllTags = record world { tags = [] }

-- changes are carried out in their order
abbrev pub world_after_changes : List Shape → World → List Change → World
world_after_changes plugins world [] = world
world_after_changes plugins world (c ∷ cs) = world_after_changes plugins (world_after_change plugins world c) cs

-- core's own registration (core's default filters: do_shortcode on the_content at 11)
abbrev pub core_changes : List Change
core_changes = Add (codes "the_content") (pos 11) 0 1 ∷ []

-- the load list of a plugin that is active; another one has no say
abbrev pub own_changes : List Text → Shape → List Change
own_changes active plugin = if list_any (bytes_eq plugin.name) active then plugin.load else []

-- the load lists of the active plugins, by the names of the plugins in the order of bytes
abbrev pub load_changes : List Shape → List Text → List Change
load_changes plugins active = flat_map (own_changes active) (by_name plugins)

-- the world once core and the active plugins have loaded
unfoldable pub loaded : List Shape → World → World
loaded plugins world = world_after_changes plugins world (core_changes ++ load_changes plugins world.active)

-- a world with nothing registered, nothing fired and nothing printed
abbrev pub fresh : ℕ → List (Text × Text) → List Text → World
fresh calls options active = record {
  table = [];
  tags = [];
  counts = [];
  running = [];
  calls = calls;
  depth = 0;
  output = [];
  options = options;
  active =
      active;
}
