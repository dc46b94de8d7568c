-- A bundle of plugins, and the same with further ones.
use Rattle.std.specs.Prelude.{◌≡◌, ℕ, Bool, true, IsTrue, List, [], ◌∷◌, filter, not, Option, Some, Ok, Err, codes}
use Rattle.std.specs.List.{list_all, AllByRecursion}
use Rattle.hook_changes.specs.declared.reply.Call.{Call}
use Rattle.callback_store.specs.Shape.{Shape, by_name, is_held}
use Rattle.plain_data.specs.Texts.{Text}
use Rattle.hook_meaning.specs.Meaning.{Engine}
use Rattle.hook_meaning.specs.Agreement.{is_among}
use Rattle.site_records.specs.declared.post.SiteRecords.{SiteRecords}
use Rattle.site_import.specs.Walks.{Read}
use Rattle.site_import.specs.Site.{site_file_of}
use Rattle.site_commands.specs.Asked.{Asked}
use Rattle.site_commands.specs.Asked as asked
use Rattle.site_commands.specs.Worked.{line_command}
use Rattle.bundled_plugins.specs.Program.{plugins, says}

-- none of the names is that of a further plugin
abbrev pub are_apart : (further names : List Text) → Bool
are_apart further names = list_all (λ name. not (is_among further name)) names

-- The second bundle has the plugins of the first, with the same replies, and perhaps further ones of these names.
pub record AddsTo (further : List Text) (one other : Engine) : Type 0 where
  pub plugins : filter (λ plugin. not (is_among further plugin.name)) (by_name other.plugins) ≡ by_name one.plugins
  pub replies : (callback : ℕ) (call : Call) → is_held one.plugins callback ≡ true → one.says callback call ≡ other.says callback call

-- the plugins that are active in a site file
abbrev pub active_in : Read SiteRecords → List Text
active_in (Ok records) = records.active
active_in (Err why) = []

-- the plugins that a command names
abbrev pub plugins_named : Option Asked → List Text
plugins_named (Some (asked.activate plugin)) = plugin ∷ []
plugins_named (Some (asked.deactivate plugin)) = plugin ∷ []
plugins_named (Some (asked.import file)) = active_in (site_file_of file)
plugins_named command = []

-- no line names a further plugin
abbrev pub NameNone : List Text → List (List ℕ) → Type 0
NameNone further lines = AllByRecursion (λ line. are_apart further (plugins_named (line_command line)) ≡ true) lines

-- the program, without `--snippets` and with it
abbrev pub program : (with_snippets : Bool) → Engine
program with_snippets = record { says = says; plugins = plugins with_snippets }
