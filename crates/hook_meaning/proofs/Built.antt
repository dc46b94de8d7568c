-- Each table of a request is built by changes of an empty one.
use Rattle.std.proofs.Common.{◌≡◌, ℕ, Bool, true, false, cond, ◌&&◌, List, [], ◌∷◌, ◌++◌, refl, ap, sym, ◌∙◌, nat_le}
use Rattle.std.proofs.lemmas.List.Sums.{fold-append}
use Rattle.plain_data.specs.Names.{is_hook_name}
use Rattle.hook_changes.specs.declared.reply.Change.{Change}
use Rattle.hook_changes.specs.declared.reply.Change.TheVariants.{Add, Remove, RemoveAll, AddTag, RemoveTag, RemoveAllTags}
use Rattle.callback_store.specs.Shape.{Shape}
use Rattle.hook_registry.specs.Table.{Table}
use Rattle.hook_registry.specs.OneList as one_list
use Rattle.hook_registry.specs.OneList.{TableChange, Added, Removed, RemovedAll}
use Rattle.plain_data.specs.Texts.{Text}
use Rattle.hook_meaning.specs.World.{World, is_active, world_after_change, core_changes, load_changes, loaded, fresh}
use Rattle.hook_meaning.specs.Tables.{table_changes, table_with, HasBuiltTable}
use Rattle.hook_meaning.specs.Throughout.{Throughout}
use Rattle.hook_meaning.specs.Meaning.{Engine, filtered, acted, replaced}
use Rattle.hook_meaning.proofs.Agree.{Keeps, keeps_all}
use Rattle.hook_meaning.proofs.Throughout.{agree-worlds, kept-filtered, kept-acted, kept-replaced}

-- one change, or none
one_or_none : (b : Bool) (t : Table) (c : TableChange) → cond b (table_with t (c ∷ [])) t ≡ table_with t (cond b (c ∷ []) [])
one_or_none true t c = refl
one_or_none false t c = refl

pub table-changed : (plugins : List Shape) (w : World) (c : Change) → (world_after_change plugins w c).table ≡ table_with w.table (table_changes plugins w c)
table-changed plugins w (Add hook priority callback accepted) =
    one_or_none (is_hook_name hook && is_active plugins w callback && nat_le accepted 16) w.table
    (Added hook (record { priority = priority; callback = callback; accepted = accepted }))
table-changed plugins w (Remove hook priority callback) = one_or_none (is_hook_name hook) w.table (Removed hook priority callback)
table-changed plugins w (RemoveAll hook priority) = one_or_none (is_hook_name hook) w.table (RemovedAll hook priority)
table-changed plugins w (AddTag tag callback) = refl
table-changed plugins w (RemoveTag tag) = refl
table-changed plugins w RemoveAllTags = refl

pub built-kept : (plugins : List Shape) (w : World) (c : Change) → HasBuiltTable w → HasBuiltTable (world_after_change plugins w c)
built-kept plugins w c built = record {
  changes = built.changes ++ table_changes plugins w c;
  is = table-changed plugins w c ∙ ap (λ t. table_with t (table_changes plugins w c)) built.is
      ∙ sym (fold-append one_list.with_change [] built.changes (table_changes plugins w c));
}

keeps_built : (plugins : List Shape) → Keeps plugins HasBuiltTable
keeps_built plugins = record {
  calls = λ w n i. i;
  deeper = λ w e i. i;
  higher = λ w i. i;
  running = λ w hooks i. i;
  counts = λ w counts i. i;
  output = λ w text i. i;
  changed = built-kept plugins;
}

pub built-loaded : (plugins : List Shape) (calls : ℕ) (options : List (Text × Text)) (active : List Text)
    → HasBuiltTable (loaded plugins (fresh calls options active))
unfolding loaded
built-loaded plugins calls options active =
    keeps_all plugins HasBuiltTable (keeps_built plugins) (fresh calls options active) (core_changes ++ load_changes plugins active)
    (record { changes = []; is = refl })

module _ (engine : Engine) (w : World) where
  pub built-filtered : (hook value : Text) (args : List Text) → HasBuiltTable w → Throughout HasBuiltTable (filtered engine w hook value args)
  built-filtered hook value args built = agree-worlds (kept-filtered engine HasBuiltTable (keeps_built engine.plugins) w hook value args built)

  pub built-acted : (hook : Text) (args : List Text) → HasBuiltTable w → Throughout HasBuiltTable (acted engine w hook args)
  built-acted hook args built = agree-worlds (kept-acted engine HasBuiltTable (keeps_built engine.plugins) w hook args built)

  pub built-replaced : (text : Text) → HasBuiltTable w → Throughout HasBuiltTable (replaced engine w text)
  built-replaced text built = agree-worlds (kept-replaced engine HasBuiltTable (keeps_built engine.plugins) w text built)
