-- Where the items of a page are.
use Rattle.std.specs.Prelude.{ℕ, List, flat_map, slice_get, Option, None, Some, option_and_then, option_to_list}
use Rattle.plain_data.specs.Names.{core_name}
use Rattle.site_records.specs.declared.post.Post.{Post}
use Rattle.plain_data.specs.Texts.{Text}
use Rattle.template_trees.specs.declared.tree.Part.{Part}
use Rattle.template_trees.specs.declared.tree.Part.TheVariants as part
use Rattle.template_trees.specs.declared.tree.Item.{Item}
use Rattle.template_trees.specs.declared.tree.Item.TheVariants as item
use Rattle.template_trees.specs.declared.tree.Element.{Element}
use Rattle.template_trees.specs.declared.tree.Element.TheVariants as element
use Rattle.template_trees.specs.declared.tree.Node.{Node}
use Rattle.template_trees.specs.declared.tree.Node.TheVariants as node
use Rattle.template_trees.specs.declared.tree.Template.{Template}
use Rattle.template_parts.specs.declared.settings.Settings.{Settings}
use Rattle.template_parts.specs.declared.place.Side.{Side}
use Rattle.template_parts.specs.declared.place.Side.TheVariants as side
use Rattle.template_parts.specs.declared.place.TreePlace.{TreePlace}
use Rattle.template_parts.specs.declared.place.TreePlace.TheVariants as stored
use Rattle.template_parts.specs.declared.place.ItemPlace.{ItemPlace}
use Rattle.template_parts.specs.declared.place.ItemPlace.TheVariants as place
use Rattle.template_parts.specs.declared.steps.Step.{Step}
use Rattle.template_parts.specs.Pages.{Placed, over}

-- the item that an element is, if it isn't a part
abbrev pub element_item : Element → Option Item
element_item (element.Item item) = Some item
element_item (element.Part part) = None

-- the item that a node is, if it isn't a part or a loop
abbrev pub node_item : Node → Option Item
node_item (node.Element element) = element_item element
node_item (node.Loop body otherwise) = None

-- the elements on one side of a loop
abbrev pub elements_in : Side → Node → Option (List Element)
elements_in side (node.Element element) = None
elements_in side.Body (node.Loop body otherwise) = Some body
elements_in side.Otherwise (node.Loop body otherwise) = Some otherwise

-- the template of a part
abbrev pub template_of : Settings → Part → Option Template
template_of settings part.Header = settings.header
template_of settings part.Footer = settings.footer
template_of settings part.Content = settings.content

-- the post at a place, if a place is given
abbrev pub post_at : List Post → Option ℕ → Option Post
post_at posts post = option_and_then (slice_get posts) post

module _ (settings : Settings) where
  -- the item at a place of a template
  abbrev pub stored_item : TreePlace → Option Item
  stored_item (stored.Node at) = option_and_then node_item (slice_get settings.template.nodes at)
  stored_item (stored.Element node side at) =
      option_and_then (λ elements. option_and_then element_item (slice_get elements at))
      (option_and_then (elements_in side) (slice_get settings.template.nodes node))
  stored_item (stored.Part part at) = option_and_then (λ template. option_and_then node_item (slice_get template.nodes at)) (template_of settings part)

  -- the item at a place of a page
  abbrev pub item_at : ItemPlace → Option Item
  item_at (place.Hook hook) = Some (item.Action (core_name hook))
  item_at (place.Stored stored) = stored_item stored

  -- the items at some places, in order
  abbrev pub items_of : List ItemPlace → List Item
  items_of places = flat_map (λ place. option_to_list (item_at place)) places

  -- the item of a step, over its post
  abbrev pub step_items : List Post → Step → List Placed
  step_items posts step = over (post_at posts step.post) (option_to_list (item_at step.place))

  -- the items of some steps, in order
  abbrev pub items_left : List Post → List Step → List Placed
  items_left posts steps = flat_map (step_items posts) steps
