-- What a template prints.
use Rattle.std.specs.Prelude.{◌≡◌, ◌≢◌, List, [], ◌∷◌, ◌++◌, map, flat_map, Option, None, Some, codes, decimal}
use Rattle.site_records.specs.declared.post.Post.{Post}
use Rattle.site_records.specs.declared.post.PostKind.{PostKind}
use Rattle.site_records.specs.declared.post.PostKind.TheVariants as kind
use Rattle.plain_data.specs.Texts.{Text}
use Rattle.hook_meaning.specs.World.{World}
use Rattle.hook_meaning.specs.declared.fault.RunFault.{RunFault}
use Rattle.hook_meaning.specs.declared.fault.RunFault.TheVariants as fault
use Rattle.hook_meaning.specs.Trace.{Trace, Done, Ended, Fault, outcome_of, and_then}
use Rattle.hook_meaning.specs.Meaning.{Engine, filtered, acted}
use Rattle.page_escapes.specs.Escapes.{ends_escaped, html_escaped}
use Rattle.template_trees.specs.declared.tree.Tag.{Tag}
use Rattle.template_trees.specs.declared.tree.Tag.TheVariants as tag
use Rattle.template_trees.specs.declared.tree.PostTag.{PostTag}
use Rattle.template_trees.specs.declared.tree.PostTag.TheVariants as of_post
use Rattle.template_trees.specs.declared.tree.Part.{Part}
use Rattle.template_trees.specs.declared.tree.Part.TheVariants as part
use Rattle.template_trees.specs.declared.tree.Item.{Item}
use Rattle.template_trees.specs.declared.tree.Item.TheVariants as item
use Rattle.template_trees.specs.declared.tree.Element.{Element}
use Rattle.template_trees.specs.declared.tree.Element.TheVariants as element
use Rattle.template_trees.specs.declared.tree.Node.{Node}
use Rattle.template_trees.specs.declared.tree.Node.TheVariants as node
use Rattle.template_trees.specs.declared.tree.Template.{Template}
use Rattle.template_parts.specs.declared.settings.Settings.{Settings}

-- work that prints, and has no other result
abbrev pub Work : Type 0
Work = Trace (Unit {0})

-- a text, appended to the output
abbrev pub print_text : World → Text → Work
print_text world text = Done (record world { output = world.output ++ text }) tt

-- one piece of work after another
unfoldable pub each : {X : Type 0} → (World → X → Work) → World → List X → Work
each work world [] = Done world tt
each work world (x ∷ xs) = and_then (work world x) (λ later nothing. each work later xs)

-- what each request fires once its plugins have loaded, before its template (Plugin API, Action Reference)
abbrev pub request_actions : List Item
request_actions =
    item.Action (codes "plugins_loaded")
    ∷ item.Action (codes "init")
    ∷ item.Action (codes "wp_loaded")
    ∷ item.Action (codes "wp")
    ∷ item.Action (codes "template_redirect")
    ∷ []

-- the path of a post or page (Code Reference, the_permalink, with plain permalinks)
abbrev pub permalink : Post → Text
permalink post = before post.kind ++ decimal post.id
  where
    before : PostKind → Text
    before kind.Post = codes "/?p="
    before kind.Page = codes "/?page_id="

module _ (engine : Engine) (settings : Settings) where
  -- a value through a filter and then through a function, printed
  unfoldable pub shown_pass : (Text → Text) → World → (hook value : Text) → List Text → Work
  shown_pass shown world hook value args = and_then (filtered engine world hook value args) (λ later v. print_text later (shown v))

  -- the filter of a title also gets the post's number (Code Reference, the_title)
  abbrev pub title_pass : (Text → Text) → Post → World → Work
  title_pass shown post world = shown_pass shown world (codes "the_title") post.title (decimal post.id ∷ [])

  -- each `]]>` of the filtered content is shown as `]]&gt;` (Code Reference, the_content)
  abbrev pub content_pass : Post → World → Work
  content_pass post world = shown_pass ends_escaped world (codes "the_content") post.content []

  -- an action, with no arguments (Code Reference, wp_head, wp_footer, do_action)
  unfoldable pub action_pass : World → Text → Work
  action_pass world hook = acted engine world hook []

  -- the tags of a post (Theme Handbook, Template Tags)
  unfoldable pub post_tag_pass : Post → World → PostTag → Work
  post_tag_pass post world of_post.TheTitle = title_pass (λ title. title) post world
  post_tag_pass post world of_post.TitleEscaped = title_pass html_escaped post world
  post_tag_pass post world of_post.TheContent = content_pass post world
  post_tag_pass post world of_post.TheId = print_text world (decimal post.id)
  post_tag_pass post world of_post.ThePermalink = print_text world (permalink post)
  post_tag_pass post world of_post.PostDate = print_text world post.date

  -- outside a loop the tags of a post print nothing
  unfoldable pub tag_pass : Option Post → World → Tag → Work
  tag_pass None world (tag.OfPost tag) = Done world tt
  tag_pass (Some post) world (tag.OfPost tag) = post_tag_pass post world tag
  tag_pass post world tag.SiteName = print_text world (html_escaped settings.site_name)
  tag_pass post world tag.WpHead = action_pass world (codes "wp_head")
  tag_pass post world tag.WpFooter = action_pass world (codes "wp_footer")

  -- the printing of an item: a text, a tag or an action
  unfoldable pub item_pass : Option Post → World → Item → Work
  item_pass post world (item.Text text) = print_text world text
  item_pass post world (item.Tag tag) = tag_pass post world tag
  item_pass post world (item.Action hook) = action_pass world hook

  -- an item with its post
  abbrev pub placed_pass : World → Option Post × Item → Work
  placed_pass world placed = item_pass placed.0 world placed.1

-- an item of a page, and the post that it is about; outside a loop there is none
abbrev pub Placed : Type 0
Placed = Option Post × Item

-- items over a post
abbrev pub over : Option Post → List Item → List Placed
over post items = map (λ item. (post, item)) items

-- a part has only items, so nothing is printed of any other node
abbrev pub part_node_items : Node → List Item
part_node_items (node.Element (element.Item item)) = item ∷ []
part_node_items other = []

-- the template of a part, if there is one
abbrev pub stored_part_items : Option Template → List Item
stored_part_items None = []
stored_part_items (Some template) = flat_map part_node_items template.nodes

module _ (settings : Settings) where
  -- a header and a footer are announced, also if none is stored (Code Reference, get_header, get_footer)
  abbrev pub part_items : Part → List Item
  part_items part.Header = item.Action (codes "get_header") ∷ stored_part_items settings.header
  part_items part.Footer = item.Action (codes "get_footer") ∷ stored_part_items settings.footer
  part_items part.Content = stored_part_items settings.content

  -- the items of an element: itself, or those of a part
  abbrev pub element_items : Element → List Item
  element_items (element.Item item) = item ∷ []
  element_items (element.Part part) = part_items part

  -- the items of a list of elements
  abbrev pub elements_items : List Element → List Item
  elements_items elements = flat_map element_items elements

  -- a loop: its body for each post that was found, or its other body if none was (Theme Handbook, The Loop)
  abbrev pub loop_items : List Element → List Element → List Post → List Placed
  loop_items body otherwise [] = over None (elements_items otherwise)
  loop_items body otherwise (post ∷ posts) = flat_map (λ p. over (Some p) (elements_items body)) (post ∷ posts)

  -- the items of a node: those of an element, or of a loop over the posts
  abbrev pub node_items : List Post → Node → List Placed
  node_items posts (node.Element element) = over None (element_items element)
  node_items posts (node.Loop body otherwise) = loop_items body otherwise posts

  -- all that a page is made of, in order: the actions of a request, and then the template (Plugin API, Action Reference)
  abbrev pub page_items : List Post → List Placed
  page_items posts = over None request_actions ++ flat_map (node_items posts) settings.template.nodes

-- a page over the posts that were found: its items, one after another
unfoldable pub page_pass : Engine → Settings → List Post → World → Work
page_pass engine settings posts world = each (placed_pass engine settings) world (page_items settings posts)

-- the page was made, and this is its text
pub record IsPage (work : Work) (text : Text) : Type 0 where
  pub world : World
  pub made : outcome_of work ≡ Ended world tt
  pub whole : text ≡ world.output

-- the work was refused with this fault, unless that is an allocation failure
abbrev pub IsRefusedBy : Work → RunFault → Type 0
IsRefusedBy work why = why ≢ fault.OutOfMemory → outcome_of work ≡ Fault why
