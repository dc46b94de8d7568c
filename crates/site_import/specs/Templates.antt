-- The templates of a site file.
use Rattle.std.specs.Prelude.{ℕ, List, Result, Ok, Err}
use Rattle.serde_json.specs.Data.{Data}
use Rattle.serde_json.specs.Find.{as_object}
use Rattle.serde_json.specs.Written.{compact_text}
use Rattle.template_trees.specs.Trees.{template_of}
use Rattle.template_trees.specs.declared.fault.TemplateFault.{TemplateFault}
use Rattle.template_trees.specs.declared.fault.TemplateFault.TheVariants as template
use Rattle.template_trees.specs.declared.tree.Template.{Template}
use Rattle.site_import.specs.Walks.{Read, whole, entry_of, and_read, of_form, each_from, members_of}
use Rattle.site_import.specs.declared.fault.Place.{Place}
use Rattle.site_import.specs.declared.fault.Section.TheVariants.{Templates}
use Rattle.site_import.specs.declared.fault.ImportFault.{ImportFault}
use Rattle.site_import.specs.declared.fault.ImportFault.TheVariants.{BadTemplate, TooLarge, OutOfMemory}

-- why a template is refused, as a fault of the site file
abbrev pub fault_at : Place → TemplateFault → ImportFault
fault_at place template.BadTemplate = BadTemplate place
fault_at place template.TooLarge = TooLarge place
fault_at place template.OutOfMemory = OutOfMemory

-- a template is stored as the compact JSON text of its tree
abbrev pub stored_at : Place → List ℕ → Data → Result Template TemplateFault → Read (List ℕ × List ℕ)
stored_at place name tree (Ok template) = Ok (name, compact_text tree)
stored_at place name tree (Err fault) = Err (fault_at place fault)

-- the nth template
abbrev pub template_at : ℕ → (List ℕ × Data) → Read (List ℕ × List ℕ)
template_at n entry = stored_at (entry_of Templates n) entry.0 entry.1 (template_of entry.0 entry.1)

-- an object of templates
unfoldable pub templates_of : Data → Read (List (List ℕ × List ℕ))
templates_of tree = and_read (of_form (whole Templates) (as_object tree)) (λ members. each_from template_at 0 (members_of members))
