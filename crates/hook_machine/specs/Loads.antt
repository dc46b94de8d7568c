-- The tables that changes leave, by what each change says and whether its callback is active.
use Rattle.std.specs.Prelude.{ℕ, Bool, true, not, ◌&&◌, ◌||◌, ◌==◌, List, [], ◌∷◌, ◌++◌, map, if◌then◌else◌, nat_le, Option, None, Some}
use Rattle.std.specs.Borrow.{Bor}
use Rattle.plain_data.specs.Names.{is_hook_name, is_tag_name}
use Rattle.hook_changes.specs.declared.reply.Change.{Change}
use Rattle.hook_changes.specs.declared.reply.Change.TheVariants.{Add, Remove, RemoveAll, AddTag, RemoveTag, RemoveAllTags}
use Rattle.callback_store.specs.Shape.{Shape, is_held_by}
use Rattle.hook_registry.specs.Named.{set_value, remove_value}
use Rattle.hook_registry.specs.Table.{Registered, add, remove, remove_all}
use Rattle.plain_data.specs.Texts.{Text}
use Rattle.hook_meaning.specs.World.{World, core_changes}

-- what is registered after a change
abbrev pub registered_after : Registered → Change → Bool → Registered
registered_after tables (Add hook priority callback accepted) active = record tables {
  table = if is_hook_name hook && active && nat_le accepted 16
      then add tables.table hook (record { priority = priority; callback = callback; accepted = accepted })
      else tables.table;
}
registered_after tables (Remove hook priority callback) active = record tables {
  table = if is_hook_name hook then remove tables.table hook priority callback else tables.table;
}
registered_after tables (RemoveAll hook priority) active = record tables {
  table = if is_hook_name hook then remove_all tables.table hook priority else tables.table;
}
registered_after tables (AddTag tag callback) active = record tables {
  tags = if is_tag_name tag && active && not (callback == 0) then set_value tables.tags tag callback else tables.tags;
}
registered_after tables (RemoveTag tag) active = record tables { tags = remove_value tables.tags tag }
registered_after tables RemoveAllTags active = record tables { tags = [] }

-- what is registered after changes, each beside whether its callback is active
abbrev pub registered_after_all : Registered → List (Change × Bool) → Registered
registered_after_all tables [] = tables
registered_after_all tables (c ∷ cs) = registered_after_all (registered_after tables c.0 c.1) cs

-- a callback is active if it is core's, 0, or one of a plugin of these names
abbrev pub is_active_among : List Shape → List Text → ℕ → Bool
is_active_among plugins active callback = callback == 0 || is_held_by plugins active callback

-- whether the callback of a change is active; of one that registers none it makes no difference
abbrev pub has_active : List Shape → List Text → Change → Bool
has_active plugins active (Add hook priority callback accepted) = is_active_among plugins active callback
has_active plugins active (Remove hook priority callback) = true
has_active plugins active (RemoveAll hook priority) = true
has_active plugins active (AddTag tag callback) = is_active_among plugins active callback
has_active plugins active (RemoveTag tag) = true
has_active plugins active RemoveAllTags = true

abbrev pub with_active : List Shape → List Text → List Change → List (Change × Bool)
with_active plugins active changes = map (λ c. (c, has_active plugins active c)) changes

-- a change of a load list, as a run has it
abbrev pub load_change : Bor Change × Bool → Change × Bool
load_change c = (c.0.now, c.1)

-- core's own registration
abbrev pub core_load : List (Change × Bool)
core_load = map (λ c. (c, true)) core_changes

abbrev pub none_registered : Registered
none_registered = record { table = []; tags = []; counts = [] }

-- what core's own registration and then a load leave
abbrev pub load_left : List (Change × Bool) → Registered
load_left load = registered_after_all none_registered (core_load ++ load)

-- the tables of a run: what a load left, as long as nothing else was carried out, or the run's own; firings are always
-- the run's own
abbrev pub tables_in : Option (List (Change × Bool)) → Registered → Registered
tables_in None own = own
tables_in (Some load) own = record (load_left load) { counts = own.counts }

-- a world with these tables, and nothing else changed
abbrev pub with_tables : World → Registered → World
with_tables world tables = record world { table = tables.table; tags = tables.tags; counts = tables.counts }
