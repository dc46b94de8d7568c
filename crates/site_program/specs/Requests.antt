-- The reply to a request of a path.
use Rattle.std.specs.Prelude.{◌≡◌, ℕ, ◌+◌, List, [], length, map, codes, unwrap_or}
use Rattle.plain_data.specs.Texts.{Text}
use Rattle.hook_meaning.specs.World.{World, fresh, loaded}
use Rattle.hook_meaning.specs.Trace.{Outcome, Ended, Fault, outcome_of, turns_of}
use Rattle.hook_meaning.specs.Meaning.{Engine}
use Rattle.hook_meaning.specs.declared.fault.RunFault.{RunFault}
use Rattle.hook_meaning.specs.declared.fault.RunFault.TheVariants as fault
use Rattle.post_tables.specs.Rows.{Rows}
use Rattle.site_records.specs.Texts.{text_named}
use Rattle.site_records.specs.declared.found.Found.{Found}
use Rattle.site_records.specs.declared.found.FoundKind.{FoundKind}
use Rattle.site_store.specs.Stored.{Texts, options_of, templates_of, active_of, found_by, template_named}
use Rattle.template_trees.specs.Trees.{default_index}
use Rattle.template_trees.specs.declared.tree.Template.{Template}
use Rattle.template_parts.specs.Choice.{template_choice}
use Rattle.template_parts.specs.Pages as template
use Rattle.template_parts.specs.Pages.{Work}
use Rattle.template_parts.specs.declared.settings.Settings.{Settings}
use Rattle.site_replies.specs.declared.reply.Refusal.TheVariants.{TooManyCalls, TooDeep, OutOfMemory}
use Rattle.site_replies.specs.Reply.{ReplyData, refused, page}

-- the refusal for a fault of a run
abbrev pub refusal_of : RunFault → ReplyData
refusal_of fault.TooManyCalls = refused TooManyCalls
refusal_of fault.TooDeep = refused TooDeep
refusal_of fault.OutOfMemory = refused OutOfMemory

-- a page as it ended: all that was printed, or why it was refused
abbrev pub page_data : ℕ → Outcome (Unit {0}) → ReplyData
page_data status (Ended world nothing) = page status world.output
page_data status (Fault why) = refusal_of why

-- the template for what was found, if one is stored, and else the default (Theme Handbook, Template Hierarchy)
abbrev pub template_for : FoundKind → Texts → Template
template_for kind templates =
    unwrap_or (template_named (template_choice kind (map (λ t. t.0) templates)) templates) (record { nodes = default_index })

-- what the pages of a site need of its options and templates (get_bloginfo, get_header, get_footer, get_template_part)
abbrev pub settings_for : FoundKind → (options templates : Texts) → Settings
settings_for kind options templates =
    record {
      site_name = unwrap_or (text_named (codes "blogname") options) [];
      template = template_for kind templates;
      header = template_named (codes "header") templates;
      footer = template_named (codes "footer") templates;
      content = template_named (codes "content") templates;
    }

-- the world in which a page begins: the active plugins have loaded into a fresh one
abbrev pub first_world : Engine → ℕ → Texts → List Text → World
first_world engine calls options active = loaded engine.plugins (fresh calls options active)

-- in this world nothing was run: all calls are left, no ask is being answered, and nothing is printed
abbrev pub HasRunNothing : ℕ → World → Type 0
HasRunNothing calls world = (world.calls ≡ calls) × (world.depth ≡ 0) × (world.output ≡ [])

-- a page's work: in its first world the page is printed over what was found
unfoldable pub page_pass : Engine → ℕ → Found → (options templates : Texts) → List Text → Work
page_pass engine calls found options templates active =
    template.page_pass engine (settings_for found.kind options templates) found.posts (first_world engine calls options active)

-- the work of the page of a path
abbrev pub work_of : Engine → ℕ → Rows → Text → Work
work_of engine calls rows path =
    page_pass engine calls (found_by rows path) (options_of rows) (templates_of rows) (active_of rows)

-- a page that is open: what its last turn replies, and how many turns it has left, the last one included
pub record Opened : Type 0 where
  pub answer : ReplyData
  pub left : ℕ

-- the page that some work prints: a turn for each of its invocations, and the last one
abbrev pub opened_page : ℕ → Work → Opened
opened_page status work = record { answer = page_data status (outcome_of work); left = length (turns_of work) + 1 }

-- the page of a request that found this
abbrev pub page_of : Engine → ℕ → Found → (options templates : Texts) → List Text → Opened
page_of engine calls found options templates active = opened_page found.status (page_pass engine calls found options templates active)

-- the page of a path, before its first turn
unfoldable pub requested : Engine → ℕ → Rows → Text → Opened
requested engine calls rows path =
    page_of engine calls (found_by rows path) (options_of rows) (templates_of rows) (active_of rows)

-- the reply to a request of a path
abbrev pub request : Engine → ℕ → Rows → Text → ReplyData
request engine calls rows path = (requested engine calls rows path).answer
