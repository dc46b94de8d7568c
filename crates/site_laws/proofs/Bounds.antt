-- No page goes past its calls and its levels.
use Rattle.std.proofs.Common.{ℕ, ◌+◌, ◌≤◌, List, [], ◌∷◌, ◌++◌, refl, arith}
use Rattle.hook_changes.specs.declared.reply.Change.{Change}
use Rattle.hook_changes.specs.declared.reply.Change.TheVariants.{Add, Remove, RemoveAll, AddTag, RemoveTag, RemoveAllTags}
use Rattle.callback_store.specs.Shape.{Shape}
use Rattle.plain_data.specs.Texts.{Text}
use Rattle.hook_meaning.specs.World.{World, world_after_change, world_after_changes, core_changes, load_changes, fresh, loaded}
use Rattle.hook_meaning.specs.Meaning.{Engine}
use Rattle.hook_meaning.specs.Throughout.{IsWithinCalls, IsWithinDepth}
use Rattle.post_tables.specs.Rows.{Rows}
use Rattle.template_parts.proofs.Keeping.{calls-page, depth-page}
use Rattle.site_store.specs.Stored.{Texts, found_by, options_of, templates_of, active_of}
use Rattle.site_program.specs.Requests.{HasRunNothing, first_world, settings_for, page_pass, work_of}
use Rattle.site_program.specs.Requests.{requested}

-- a change touches registrations and tags alone
changed-still : (most : ℕ) (plugins : List Shape) (world : World) (c : Change) → HasRunNothing most world
    → HasRunNothing most (world_after_change plugins world c)
changed-still most plugins world (Add hook priority callback accepted) is = is
changed-still most plugins world (Remove hook priority callback) is = is
changed-still most plugins world (RemoveAll hook priority) is = is
changed-still most plugins world (AddTag tag callback) is = is
changed-still most plugins world (RemoveTag tag) is = is
changed-still most plugins world RemoveAllTags is = is

changed_all-still : (most : ℕ) (plugins : List Shape) (world : World) (cs : List Change) → HasRunNothing most world
    → HasRunNothing most (world_after_changes plugins world cs)
changed_all-still most plugins world [] is = is
changed_all-still most plugins world (c ∷ cs) is = changed_all-still most plugins (world_after_change plugins world c) cs
    (changed-still most plugins world c is)

module _ (engine : Engine) (calls : ℕ) where
  pub begins : (options : Texts) (active : List Text) → HasRunNothing calls (first_world engine calls options active)
  unfolding loaded
  begins options active =
      changed_all-still calls engine.plugins (fresh calls options active) (core_changes ++ load_changes engine.plugins active) (refl, refl, refl)

  module _ (rows : Rows) (path : Text) where
    abbrev first : World
    first = first_world engine calls (options_of rows) (active_of rows)

    pub within_calls : IsWithinCalls calls (work_of engine calls rows path)
    unfolding page_pass
    within_calls =
        let all = (begins (options_of rows) (active_of rows)).0 in
        let within = calls-page engine (settings_for (found_by rows path).kind (options_of rows) (templates_of rows)) (found_by rows path).posts first in
        omega (arith, all, within)

    pub within_depth : IsWithinDepth (work_of engine calls rows path)
    unfolding page_pass
    within_depth =
        let above = (begins (options_of rows) (active_of rows)).1 in
        depth-page engine (settings_for (found_by rows path).kind (options_of rows) (templates_of rows)) (found_by rows path).posts first (omega (arith, above))

    pub within_turns : (requested engine calls rows path).left ≤ calls + 1
    unfolding requested
    within_turns = omega (arith, within_calls)
