-- Worked templates, computed.
use Rattle.std.proofs.Common.{◌≡◌, ℕ, [], ◌∷◌, ◌++◌, true, false, None, Some, codes, refl}
use Rattle.std.specs.Prelude.{replicate}
use Rattle.serde_json.proofs.OnLiterals.{serde_json_on_literals}
use Rattle.template_trees.specs.declared.tree.Element.TheVariants as Element
use Rattle.template_trees.specs.declared.tree.Item.TheVariants as Item
use Rattle.template_trees.specs.declared.tree.Node.TheVariants as Node
use Rattle.template_trees.specs.declared.tree.Part.TheVariants as Part
use Rattle.template_trees.specs.declared.tree.PostTag.TheVariants as PostTag
use Rattle.template_trees.specs.declared.tree.Tag.TheVariants as Tag
use Rattle.template_trees.specs.Trees.{tag_named, part_named, is_template_name, text_alone, all_of, item_of}
use Rattle.template_trees.specs.Trees.{element_of, loop_of, node_of, node_in, tree_of, count_of}
use Rattle.template_trees.specs.Trees.{text_bytes, fits, template_of, default_index, hook_named}
use Rattle.template_trees.specs.Worked.{template_in, tree_of_nodes, no_tree, plain}

-- what computes in the cases below
computes : ℕ
unfolding tag_named part_named is_template_name text_alone all_of item_of element_of loop_of node_of node_in tree_of count_of text_bytes fits template_of
    template_in serde_json_on_literals
computes = 0

pub default : template_in (codes "index")
    (codes "[{\"tag\":\"wp_head\"},{\"loop\":[\"<h2>\",{\"tag\":\"the_title\"},\"</h2>\","
    ++ codes "{\"tag\":\"the_content\"}],\"else\":[\"<p>Nothing found.</p>\"]},{\"tag\":\"wp_footer\"}]")
    ≡ tree_of_nodes default_index
unfolding computes
default = refl

pub no_nodes : template_in (codes "404") (codes "[]") ≡ tree_of_nodes []
unfolding computes
no_nodes = refl

pub front_page : template_in (codes "front-page") (codes "[]") ≡ tree_of_nodes []
unfolding computes
front_page = refl

pub part : template_in (codes "header")
    (codes "[\"H\",{\"tag\":\"post_date\"},{\"action\":\"mine\"}]")
    ≡ tree_of_nodes (plain (Item.Text (codes "H")) ∷ plain (Item.Tag (Tag.OfPost PostTag.PostDate))
    ∷ plain (Item.Action (codes "mine")) ∷ [])
unfolding computes
part = refl

pub part_in_a_page : template_in (codes "page") (codes "[{\"part\":\"header\"}]")
    ≡ tree_of_nodes (Node.Element (Element.Part Part.Header) ∷ [])
unfolding computes
part_in_a_page = refl

pub part_in_a_part : template_in (codes "header") (codes "[{\"part\":\"footer\"}]") ≡ no_tree
unfolding computes
part_in_a_part = refl

pub loop_in_a_part : template_in (codes "content") (codes "[{\"loop\":[]}]") ≡ no_tree
unfolding computes
loop_in_a_part = refl

pub loops : template_in (codes "single")
    (codes "[{\"loop\":[{\"part\":\"content\"}]},{\"else\":[\"E\"],\"loop\":[]}]")
    ≡ tree_of_nodes (Node.Loop (Element.Part Part.Content ∷ []) []
    ∷ Node.Loop [] (Element.Item (Item.Text (codes "E")) ∷ []) ∷ [])
unfolding computes
loops = refl

pub loop_in_a_loop : template_in (codes "single") (codes "[{\"loop\":[{\"loop\":[]}]}]") ≡ no_tree
unfolding computes
loop_in_a_loop = refl

pub loop_in_an_else : template_in (codes "single") (codes "[{\"loop\":[],\"else\":[{\"loop\":[]}]}]")
    ≡ no_tree
unfolding computes
loop_in_an_else = refl

pub null_else : template_in (codes "single") (codes "[{\"loop\":[],\"else\":null}]") ≡ no_tree
unfolding computes
null_else = refl

pub else_alone : template_in (codes "single") (codes "[{\"else\":[]}]") ≡ no_tree
unfolding computes
else_alone = refl

pub third_key : template_in (codes "single") (codes "[{\"loop\":[],\"else\":[],\"tag\":\"the_ID\"}]")
    ≡ no_tree
unfolding computes
third_key = refl

pub other_key : template_in (codes "single") (codes "[{\"loop\":[],\"tag\":\"the_ID\"}]") ≡ no_tree
unfolding computes
other_key = refl

pub second_key : template_in (codes "single") (codes "[{\"tag\":\"the_ID\",\"text\":\"\"}]") ≡ no_tree
unfolding computes
second_key = refl

pub no_key : template_in (codes "single") (codes "[{}]") ≡ no_tree
unfolding computes
no_key = refl

pub unknown_tag : template_in (codes "single") (codes "[{\"tag\":\"the_id\"}]") ≡ no_tree
unfolding computes
unknown_tag = refl

pub unknown_part : template_in (codes "single") (codes "[{\"part\":\"sidebar\"}]") ≡ no_tree
unfolding computes
unknown_part = refl

pub number : template_in (codes "single") (codes "[1]") ≡ no_tree
unfolding computes
number = refl

pub no_list : template_in (codes "single") (codes "{\"tag\":\"the_ID\"}") ≡ no_tree
unfolding computes
no_list = refl

pub null_body : template_in (codes "single") (codes "null") ≡ no_tree
unfolding computes
null_body = refl

pub unknown_name : template_in (codes "sidebar") (codes "[]") ≡ no_tree
unfolding computes
unknown_name = refl

pub no_action : template_in (codes "single") (codes "[{\"action\":\"\"}]") ≡ no_tree
unfolding computes
no_action = refl

pub longest_action : hook_named (replicate 64 97) ≡ Some (replicate 64 97)
unfolding computes
longest_action = refl

pub longer_action : hook_named (replicate 65 97) ≡ None
unfolding computes
longer_action = refl

pub most_nodes : fits (replicate 4096 (plain (Item.Tag Tag.WpHead))) ≡ true
unfolding computes
most_nodes = refl

pub too_many_nodes : fits (replicate 4097 (plain (Item.Tag Tag.WpHead))) ≡ false
unfolding computes
too_many_nodes = refl

pub most_in_a_loop : fits (Node.Loop (replicate 4000 (Element.Part Part.Header))
    (replicate 95 (Element.Part Part.Header)) ∷ []) ≡ true
unfolding computes
most_in_a_loop = refl

pub too_many_in_a_loop : fits (Node.Loop (replicate 4000 (Element.Part Part.Header))
    (replicate 96 (Element.Part Part.Header)) ∷ []) ≡ false
unfolding computes
too_many_in_a_loop = refl

pub most_bytes : fits (plain (Item.Text (replicate 262143 97)) ∷ Node.Loop []
    (Element.Item (Item.Text (replicate 1 97)) ∷ Element.Item (Item.Action (codes "a")) ∷ []) ∷ []) ≡ true
unfolding computes
most_bytes = refl

pub too_many_bytes : fits (plain (Item.Text (replicate 262143 97)) ∷ Node.Loop []
    (Element.Item (Item.Text (replicate 2 97)) ∷ []) ∷ []) ≡ false
unfolding computes
too_many_bytes = refl
