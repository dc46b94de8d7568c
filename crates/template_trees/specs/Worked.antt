-- For worked cases: from the bytes of a text to the template that they are.
use Rattle.std.specs.Prelude.{ℕ, List, Option, Some, option_map, Result, Ok, Err}
use Rattle.serde_json.specs.Read.{read}
use Rattle.template_trees.specs.declared.fault.TemplateFault.{TemplateFault}
use Rattle.template_trees.specs.declared.fault.TemplateFault.TheVariants.{BadTemplate}
use Rattle.template_trees.specs.declared.tree.Element.TheVariants as element
use Rattle.template_trees.specs.declared.tree.Item.{Item}
use Rattle.template_trees.specs.declared.tree.Node.{Node}
use Rattle.template_trees.specs.declared.tree.Node.TheVariants as node
use Rattle.template_trees.specs.declared.tree.Template.{Template}
use Rattle.template_trees.specs.Trees.{template_of}

-- the template of that name that a JSON text is, or why it isn't one
unfoldable pub template_in : List ℕ → List ℕ → Option (Result Template TemplateFault)
template_in name text = option_map (template_of name) (read text)

-- a template of these nodes
abbrev pub tree_of_nodes : List Node → Option (Result Template TemplateFault)
tree_of_nodes nodes = Some (Ok (record { nodes = nodes }))

-- no template
abbrev pub no_tree : Option (Result Template TemplateFault)
no_tree = Some (Err BadTemplate)

-- an item outside a loop
abbrev pub plain : Item → Node
plain one = node.Element (element.Item one)
