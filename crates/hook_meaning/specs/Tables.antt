-- Each table of a request, as what changes left of an empty one.
use Rattle.std.specs.Prelude.{◌≡◌, ◌&&◌, List, [], ◌∷◌, if◌then◌else◌, nat_le, fold}
use Rattle.plain_data.specs.Names.{is_hook_name}
use Rattle.hook_changes.specs.declared.reply.Change.{Change}
use Rattle.hook_changes.specs.declared.reply.Change.TheVariants.{Add, Remove, RemoveAll, AddTag, RemoveTag, RemoveAllTags}
use Rattle.callback_store.specs.Shape.{Shape}
use Rattle.hook_registry.specs.Table.{Table}
use Rattle.hook_registry.specs.OneList.{TableChange, Added, Removed, RemovedAll, table_after}
use Rattle.hook_registry.specs.OneList as one_list
use Rattle.hook_meaning.specs.World.{World, is_active}

-- what a change does to the registrations of a hook, if it does anything
abbrev pub table_changes : List Shape → World → Change → List TableChange
table_changes plugins world (Add hook priority callback accepted) =
    if is_hook_name hook && is_active plugins world callback && nat_le accepted 16
    then Added hook (record { priority = priority; callback = callback; accepted = accepted }) ∷ []
    else []
table_changes plugins world (Remove hook priority callback) = if is_hook_name hook then Removed hook priority callback ∷ [] else []
table_changes plugins world (RemoveAll hook priority) = if is_hook_name hook then RemovedAll hook priority ∷ [] else []
table_changes plugins world (AddTag tag callback) = []
table_changes plugins world (RemoveTag tag) = []
table_changes plugins world RemoveAllTags = []

-- a table after some changes
abbrev pub table_with : Table → List TableChange → Table
table_with table changes = fold one_list.with_change table changes

-- the table is what some changes leave, if nothing was registered before
pub record IsBuilt (table : Table) : Type 0 where
  pub changes : List TableChange
  pub is : table ≡ table_after changes

abbrev pub HasBuiltTable : World → Type 0
HasBuiltTable world = IsBuilt world.table
