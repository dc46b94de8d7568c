-- How the steps of a page are gathered.
use Rattle.std.proofs.Common.{arith, ◌≡◌, ◌∙◌, ◌<◌, ◌+◌, ℕ, zero, suc, List, [], ◌∷◌, ◌++◌, append_assoc, Option, None, Some, refl, sym, ap, length, take}
use Rattle.std.proofs.Common.{map, flat_map}
use Rattle.std.proofs.lemmas.List.{append-nil, map-append}
use Rattle.std.proofs.lemmas.Grind.{flat_map-append}
use Rattle.std.specs.Prelude.{slice_get, option_and_then, option_to_list}
use Rattle.site_records.specs.declared.post.Post.{Post}
use Rattle.template_trees.specs.declared.tree.Part.{Part}
use Rattle.template_trees.specs.declared.tree.Item.{Item}
use Rattle.template_trees.specs.declared.tree.Element.{Element}
use Rattle.template_trees.specs.declared.tree.Element.TheVariants as element
use Rattle.template_trees.specs.declared.tree.Node.{Node}
use Rattle.template_trees.specs.declared.tree.Node.TheVariants as node
use Rattle.template_trees.specs.declared.tree.Template.{Template}
use Rattle.template_parts.specs.declared.settings.Settings.{Settings}
use Rattle.template_parts.specs.declared.place.TreePlace.TheVariants as stored
use Rattle.template_parts.specs.declared.place.ItemPlace.{ItemPlace}
use Rattle.template_parts.specs.declared.place.ItemPlace.TheVariants as place
use Rattle.template_parts.specs.declared.steps.Step.{Step}
use Rattle.template_parts.specs.Pages.{Placed, over, part_node_items, elements_items, loop_items}
use Rattle.template_parts.specs.Places.{node_item, template_of, item_at, items_of, step_items, items_left, post_at}

-- what a list is mapped to, and then one more of its elements
pub each_more : {X A : Type 0} (f : X → List A) (g : Option X → List A) (xs : List X) (at : ℕ) → ((x : X) → g (Some x) ≡ f x) → at < length xs
    → flat_map f (take at xs) ++ g (slice_get xs at) ≡ flat_map f (take (at + 1) xs)
each_more f g xs at same inside = let on : at + 1 ≡ suc at = omega arith in go xs at inside ∙ ap (λ n. flat_map f (take n xs)) (sym on)
  where
    go : (ys : List _) (i : ℕ) → i < length ys → flat_map f (take i ys) ++ g (slice_get ys i) ≡ flat_map f (take (suc i) ys)
    go [] i lt = absurd (omega arith)
    go (y ∷ ys) zero lt = same y ∙ sym (append-nil (f y))
    go (y ∷ ys) (suc i) lt = append_assoc (f y) (flat_map f (take i ys)) (g (slice_get ys i)) ∙ ap (λ l. f y ++ l) (go ys i (omega arith))

module _ (settings : Settings) where
  -- one place more
  pub place_more : (places : List ItemPlace) (p : ItemPlace) → items_of settings (places ++ p ∷ []) ≡ items_of settings places
      ++ option_to_list (item_at settings p)
  place_more places p =
      flat_map-append (λ q. option_to_list (item_at settings q)) places (p ∷ [])
      ∙ ap (λ l. items_of settings places ++ l) (append-nil (option_to_list (item_at settings p)))

  -- an item of a node
  bare : (o : Option Node) → option_to_list (option_and_then node_item o) ≡ flat_map part_node_items (option_to_list o)
  bare None = refl
  bare (Some (node.Element (element.Item item))) = refl
  bare (Some (node.Element (element.Part part))) = refl
  bare (Some (node.Loop body otherwise)) = refl

  -- one node of a part more
  pub node_more : (part : Part) (template : Template) (places : List ItemPlace) (before : List Item) (at : ℕ) → template_of settings part ≡ Some template
      → at < length template.nodes
      → items_of settings places ≡ before ++ flat_map part_node_items (take at template.nodes)
      → items_of settings (places ++ place.Stored (stored.Part part at) ∷ []) ≡ before ++ flat_map part_node_items (take (at + 1) template.nodes)
  node_more part template places before at is inside so_far =
      place_more places (place.Stored (stored.Part part at))
      ∙ ap (λ l. items_of settings places ++ l) (ap (λ o. option_to_list (option_and_then (λ t. option_and_then node_item (slice_get t.nodes at)) o)) is
      ∙ bare (slice_get template.nodes at))
      ∙ ap (λ l. l ++ flat_map part_node_items (option_to_list (slice_get template.nodes at))) so_far
      ∙ append_assoc before (flat_map part_node_items (take at template.nodes)) (flat_map part_node_items (option_to_list (slice_get template.nodes at)))
      ∙ ap (λ l. before ++ l) (each_more part_node_items (λ o. flat_map part_node_items (option_to_list o)) template.nodes at
      (λ n. append-nil (part_node_items n)) inside)

  module _ (posts : List Post) where
    -- the places of some items, over one post
    pub over_one : (post : Option ℕ) (places : List ItemPlace) → items_left settings posts (map (λ p. record { post = post; place = p }) places)
        ≡ over (post_at posts post) (items_of settings places)
    over_one post [] = refl
    over_one post (p ∷ ps) =
        ap (λ l. over (post_at posts post) (option_to_list (item_at settings p)) ++ l) (over_one post ps)
        ∙ sym (map-append (λ item. (post_at posts post, item)) (option_to_list (item_at settings p)) (items_of settings ps))

    -- some steps more
    pub over_more : (steps news : List Step) (post : Option ℕ) (places : List ItemPlace) → news ≡ steps ++ map (λ p. record { post = post; place = p }) places
        → items_left settings posts news ≡ items_left settings posts steps ++ over (post_at posts post) (items_of settings places)
    over_more steps news post places is =
        ap (items_left settings posts) is
        ∙ flat_map-append (step_items settings posts) steps (map (λ p. record { post = post; place = p }) places)
        ∙ ap (λ l. items_left settings posts steps ++ l) (over_one post places)

    -- one post more
    pub post_more : (steps news : List Step) (before : List Placed) (places : List ItemPlace) (at : ℕ) → at < length posts
        → news ≡ steps ++ map (λ p. record { post = Some at; place = p }) places
        → items_left settings posts steps ≡ before ++ flat_map (λ p. over (Some p) (items_of settings places)) (take at posts)
        → items_left settings posts news ≡ before ++ flat_map (λ p. over (Some p) (items_of settings places)) (take (at + 1) posts)
    post_more steps news before places at inside is so_far =
        over_more steps news (Some at) places is
        ∙ ap (λ l. l ++ over (slice_get posts at) (items_of settings places)) so_far
        ∙ append_assoc before (flat_map (λ p. over (Some p) (items_of settings places)) (take at posts)) (over (slice_get posts at) (items_of settings places))
        ∙ ap (λ l. before ++ l) (each_more (λ p. over (Some p) (items_of settings places)) (λ o. over o (items_of settings places)) posts at (λ p. refl) inside)

    -- some places, gathered anew, over no post
    pub over_none : (steps news : List Step) (none places slice : List ItemPlace) (items : List Item) → none ≡ [] → slice ≡ places
        → items_of settings places ≡ items_of settings none ++ items
        → news ≡ steps ++ map (λ p. record { post = None; place = p }) slice
        → items_left settings posts news ≡ items_left settings posts steps ++ over None items
    over_none steps news none places slice items is same gathered all =
        over_more steps news None slice all
        ∙ ap (λ l. items_left settings posts steps ++ over None l) (ap (items_of settings) same ∙ gathered ∙ ap (λ l. items_of settings l ++ items) is)

    -- a loop over no post
    pub loop_none : (body otherwise : List Element) → posts ≡ [] → over None (elements_items settings otherwise) ≡ loop_items settings body otherwise posts
    loop_none body otherwise none = rw none refl
