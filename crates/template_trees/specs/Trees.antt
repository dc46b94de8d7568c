-- Which JSON trees are templates, and which template each of them is.
use Rattle.std.specs.Prelude.{ℕ, ◌+◌, ◌==◌, ◌&&◌, ◌||◌, nat_le, Bool, true, false, List, [], ◌∷◌, length, sum_by, codes}
use Rattle.std.specs.Prelude.{Option, None, Some, is_some, option_map, option_and_then, Result, Ok, Err}
use Rattle.std.specs.Prelude.{bytes_eq, if◌then◌else◌}
use Rattle.std.specs.List.{list_any}
use Rattle.std.specs.Option.{option_map_or}
use Rattle.std.specs.Result.{result_ok}
use Rattle.serde_json.specs.Data.{Data, Items}
use Rattle.serde_json.specs.Data as json
use Rattle.serde_json.specs.Events.{members_len}
use Rattle.serde_json.specs.Find.{get, as_str, as_array, as_object}
use Rattle.serde_json.specs.Read.{read}
use Rattle.plain_data.specs.Names.{is_hook_name}
use Rattle.template_trees.specs.declared.fault.TemplateFault.{TemplateFault}
use Rattle.template_trees.specs.declared.fault.TemplateFault.TheVariants.{BadTemplate, TooLarge}
use Rattle.template_trees.specs.declared.tree.Tag.{Tag}
use Rattle.template_trees.specs.declared.tree.Tag.TheVariants as tag
use Rattle.template_trees.specs.declared.tree.PostTag.TheVariants as post_tag
use Rattle.template_trees.specs.declared.tree.Part.{Part}
use Rattle.template_trees.specs.declared.tree.Part.TheVariants as part
use Rattle.template_trees.specs.declared.tree.Item.{Item}
use Rattle.template_trees.specs.declared.tree.Item.TheVariants as item
use Rattle.template_trees.specs.declared.tree.Element.{Element}
use Rattle.template_trees.specs.declared.tree.Element.TheVariants as element
use Rattle.template_trees.specs.declared.tree.Node.{Node}
use Rattle.template_trees.specs.declared.tree.Node.TheVariants as node
use Rattle.template_trees.specs.declared.tree.Template.{Template}

-- the tags by their names (Theme Handbook, Template Tags); `title_escaped`, `post_date`, `site_name` are this engine's own
unfoldable pub tag_named : List ℕ → Option Tag
tag_named name =
    if bytes_eq name (codes "the_title") then Some (tag.OfPost post_tag.TheTitle)
    else (if bytes_eq name (codes "title_escaped") then Some (tag.OfPost post_tag.TitleEscaped)
    else (if bytes_eq name (codes "the_content") then Some (tag.OfPost post_tag.TheContent)
    else (if bytes_eq name (codes "the_ID") then Some (tag.OfPost post_tag.TheId)
    else (if bytes_eq name (codes "the_permalink") then Some (tag.OfPost post_tag.ThePermalink)
    else (if bytes_eq name (codes "post_date") then Some (tag.OfPost post_tag.PostDate)
    else (if bytes_eq name (codes "site_name") then Some tag.SiteName
    else (if bytes_eq name (codes "wp_head") then Some tag.WpHead
    else (if bytes_eq name (codes "wp_footer") then Some tag.WpFooter else None))))))))

-- the parts by their names (Theme Handbook, Template Parts)
unfoldable pub part_named : List ℕ → Option Part
part_named name =
    if bytes_eq name (codes "header") then Some part.Header
    else (if bytes_eq name (codes "footer") then Some part.Footer
    else (if bytes_eq name (codes "content") then Some part.Content else None))

-- the templates of whole pages (Theme Handbook, Template Hierarchy)
abbrev pub page_templates : List (List ℕ)
page_templates =
    codes "index" ∷ codes "home" ∷ codes "front-page" ∷ codes "single" ∷ codes "page"
    ∷ codes "singular" ∷ codes "date" ∷ codes "archive" ∷ codes "404" ∷ []

-- whether it is the name of a part
abbrev pub is_part_name : List ℕ → Bool
is_part_name name = is_some (part_named name)

-- whether it is the name of a template, of a page or of a part
unfoldable pub is_template_name : List ℕ → Bool
is_template_name name = list_any (bytes_eq name) page_templates || is_part_name name

-- how many members an object has
abbrev pub member_count : Data → ℕ
member_count tree = option_map_or members_len (as_object tree) 0

-- the value at a key that the object has alone
abbrev pub alone_at : List ℕ → Data → Option Data
alone_at key tree = if member_count tree == 1 then get key tree else None

-- the text at such a key
unfoldable pub text_alone : List ℕ → Data → Option (List ℕ)
text_alone key tree = option_and_then as_str (alone_at key tree)

-- the one, or else the other
abbrev pub or_else : {A : Type 0} → Option A → Option A → Option A
or_else None other = other
or_else (Some one) other = Some one

-- what all of these are, in order
unfoldable pub all_of : {A : Type 0} → (Data → Option A) → Items → Option (List A)
all_of is json.no_items = Some []
all_of is (json.item tree trees) =
    option_and_then (λ first. option_map (λ rest. first ∷ rest) (all_of is trees)) (is tree)

-- a JSON list of such
abbrev pub list_of : {A : Type 0} → (Data → Option A) → Data → Option (List A)
list_of is tree = option_and_then (all_of is) (as_array tree)

-- a text
abbrev pub text_item : Data → Option Item
text_item tree = option_map item.Text (as_str tree)

-- `{"tag":T}`
abbrev pub tag_item : Data → Option Item
tag_item tree = option_map item.Tag (option_and_then tag_named (text_alone (codes "tag") tree))

-- a name, if it is one of a hook
abbrev pub hook_named : List ℕ → Option (List ℕ)
hook_named name = if is_hook_name name then Some name else None

-- `{"action":H}`
abbrev pub action_item : Data → Option Item
action_item tree = option_map item.Action (option_and_then hook_named (text_alone (codes "action") tree))

-- what may appear anywhere in a template
unfoldable pub item_of : Data → Option Item
item_of tree = or_else (text_item tree) (or_else (tag_item tree) (action_item tree))

-- `{"part":P}`
abbrev pub part_element : Data → Option Element
part_element tree = option_map element.Part (option_and_then part_named (text_alone (codes "part") tree))

-- what may appear in a loop
unfoldable pub element_of : Data → Option Element
element_of tree = or_else (option_map element.Item (item_of tree)) (part_element tree)

-- the body of a loop
abbrev pub elements_of : Data → Option (List Element)
elements_of tree = list_of element_of tree

-- the elements at a key
abbrev pub elements_at : List ℕ → Data → Option (List Element)
elements_at key tree = option_and_then elements_of (get key tree)

-- the loop over a body: without another body if the object has no other key
abbrev pub loop_over : List Element → Data → Option Node
loop_over body tree =
    if member_count tree == 1 then Some (node.Loop body [])
    else (if member_count tree == 2 then option_map (λ otherwise. node.Loop body otherwise) (elements_at (codes "else") tree)
    else None)

-- `{"loop":B}`, and `{"loop":B,"else":E}`
unfoldable pub loop_of : Data → Option Node
loop_of tree = option_and_then (λ body. loop_over body tree) (elements_at (codes "loop") tree)

-- an element, or a loop over elements
unfoldable pub node_of : Data → Option Node
node_of tree = or_else (option_map node.Element (element_of tree)) (loop_of tree)

-- what a template holds: in a part only items, and so no part and no loop
unfoldable pub node_in : (in_part : Bool) → Data → Option Node
node_in true tree = option_map (λ one. node.Element (element.Item one)) (item_of tree)
node_in false tree = node_of tree

-- the body of a template
abbrev pub nodes_of : (in_part : Bool) → Data → Option (List Node)
nodes_of in_part tree = list_of (node_in in_part) tree

-- the tree of the template of that name
unfoldable pub tree_of : List ℕ → Data → Option (List Node)
tree_of name tree = if is_template_name name then nodes_of (is_part_name name) tree else None

-- a node counts one, and so does each element of a loop's two bodies
abbrev pub node_count : Node → ℕ
node_count (node.Element one) = 1
node_count (node.Loop body otherwise) = 1 + (length body + length otherwise)

-- how many nodes there are
unfoldable pub count_of : List Node → ℕ
count_of nodes = sum_by node_count nodes

-- the bytes of a text that is printed as it is
abbrev pub item_bytes : Item → ℕ
item_bytes (item.Text text) = length text
item_bytes (item.Tag word) = 0
item_bytes (item.Action hook) = 0

-- and of those in an element
abbrev pub element_bytes : Element → ℕ
element_bytes (element.Item one) = item_bytes one
element_bytes (element.Part called) = 0

-- the number of bytes of a node's texts
abbrev pub node_bytes : Node → ℕ
node_bytes (node.Element one) = element_bytes one
node_bytes (node.Loop body otherwise) = sum_by element_bytes body + sum_by element_bytes otherwise

-- how many bytes of texts there are
unfoldable pub text_bytes : List Node → ℕ
text_bytes nodes = sum_by node_bytes nodes

-- at most 4,096 nodes and 262,144 bytes of texts
unfoldable pub fits : List Node → Bool
fits nodes = nat_le (count_of nodes) 4096 && nat_le (text_bytes nodes) 262144

-- the template of these nodes: a tree that isn't one is refused before one that is too large
abbrev pub of_size : Option (List Node) → Result Template TemplateFault
of_size None = Err BadTemplate
of_size (Some nodes) = if fits nodes then Ok (record { nodes = nodes }) else Err TooLarge

-- the template of that name that a JSON tree is, or why it isn't one
unfoldable pub template_of : List ℕ → Data → Result Template TemplateFault
template_of name tree = of_size (tree_of name tree)

-- the template that a stored text is, read as JSON (RFC 8259)
unfoldable pub stored_template : List ℕ → List ℕ → Option Template
stored_template name text = option_and_then (λ tree. result_ok (template_of name tree)) (read text)

-- the template `index` of a site that has stored none
abbrev pub default_index : List Node
default_index =
    node.Element (element.Item (item.Tag tag.WpHead))
    ∷ node.Loop
    (element.Item (item.Text (codes "<h2>"))
    ∷ element.Item (item.Tag (tag.OfPost post_tag.TheTitle))
    ∷ element.Item (item.Text (codes "</h2>"))
    ∷ element.Item (item.Tag (tag.OfPost post_tag.TheContent))
    ∷ [])
    (element.Item (item.Text (codes "<p>Nothing found.</p>")) ∷ [])
    ∷ node.Element (element.Item (item.Tag tag.WpFooter))
    ∷ []
