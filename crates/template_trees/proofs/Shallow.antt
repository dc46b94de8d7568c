-- A tree that is a template nests four deep at most, and has no float.
use Rattle.std.proofs.Common.{arith, ◌≡◌, ◌+◌, ◌≤◌, ◌∙◌, ◌==◌, ℕ, List, Bool, true, false, cond}
use Rattle.std.proofs.Common.{Option, Some, None, Ok, option_map, option_and_then, Ordering}
use Rattle.std.proofs.Common.{Less, Equal, Greater, nat_cmp, is_eq, codes, refl, sym, ap, inl, inr}
use Rattle.std.proofs.Common.{get_or}
use Rattle.std.proofs.lemmas.Bool.{cases_Bool, eqb-true}
use Rattle.std.proofs.lemmas.Map.Text.{is_eq-slice_cmp}
use Rattle.std.proofs.lemmas.Option.{option_and_then_some}
use Rattle.std.proofs.lemmas.Slice.Eq.{bytes_eq-Decides}
use Rattle.std.specs.Cmp.Lexicographic.{slice_cmp}
use Rattle.std.specs.Ordering.{match_ordering}
use Rattle.std.specs.Result.{result_ok}
use Rattle.serde_json.specs.Data.{Data, null, boolean, number, string, array, object, Items, no_items}
use Rattle.serde_json.specs.Data.{Members, no_members, member, depth, items_depth, members_depth}
use Rattle.serde_json.specs.Data as json
use Rattle.serde_json.specs.Events.{members_len}
use Rattle.serde_json.specs.Find.{get, get_member, as_str, as_array}
use Rattle.serde_json.specs.Read.{read}
use Rattle.serde_json.specs.Written.{has_float, items_have_float, members_have_float}
use Rattle.template_trees.specs.declared.tree.Item.{Item}
use Rattle.template_trees.specs.declared.tree.Item.TheVariants as item
use Rattle.template_trees.specs.declared.tree.Element.{Element}
use Rattle.template_trees.specs.declared.tree.Element.TheVariants as element
use Rattle.template_trees.specs.declared.tree.Node.{Node}
use Rattle.template_trees.specs.declared.tree.Node.TheVariants as node
use Rattle.template_trees.specs.declared.tree.Template.{Template}
use Rattle.template_trees.specs.Trees.{tag_named, part_named, hook_named, text_item, tag_item, action_item}
use Rattle.template_trees.specs.Trees.{part_element, elements_of, nodes_of, member_count, alone_at}
use Rattle.template_trees.specs.Trees.{text_alone, or_else, all_of, list_of, item_of, element_of, elements_at}
use Rattle.template_trees.specs.Trees.{loop_of, node_of, node_in, is_part_name, is_template_name}
use Rattle.template_trees.specs.Trees.{tree_of, of_size, template_of, stored_template}

-- at most so deep, and without a float
pub record IsShallow (n : ℕ) (tree : Data) : Type 0 where
  pub deep : depth tree ≤ n
  pub whole : has_float tree ≡ false

record AreShallow (n : ℕ) (members : Members) : Type 0 where
  deep : members_depth members ≤ n
  whole : members_have_float members ≡ false

record AllShallow (n : ℕ) (trees : Items) : Type 0 where
  deep : items_depth trees ≤ n
  whole : items_have_float trees ≡ false

deeper : (n m : ℕ) (tree : Data) → n ≤ m → IsShallow n tree → IsShallow m tree
deeper n m tree h small = record { deep = let d = small.deep in omega arith; whole = small.whole }

or_else_some : {A P : Type 0} → (one other : Option A) (x : A) → or_else one other ≡ Some x → (one ≡ Some x → P) → (other ≡ Some x → P) → P
or_else_some None other x e first second = second e
or_else_some (Some y) other x e first second = first e

option_map_some : {A B P : Type 0} → (f : A → B) (o : Option A) (y : B) → option_map f o ≡ Some y → ((x : A) → o ≡ Some x → P) → P
option_map_some f None y e next = absurd (cc)
option_map_some f (Some x) y e next = next x refl

if_some : {A P : Type 0} → (b : Bool) (o : Option A) (x : A) → cond b o None ≡ Some x → (b ≡ true → o ≡ Some x → P) → P
if_some true o x e next = next refl e
if_some false o x e next = absurd (cc)

text_shallow : (tree : Data) (text : List ℕ) → as_str tree ≡ Some text → IsShallow 0 tree
text_shallow null text e = absurd (cc)
text_shallow (boolean b) text e = absurd (cc)
text_shallow (number n) text e = absurd (cc)
text_shallow (string s) text e = record { deep = omega arith; whole = refl }
text_shallow (array trees) text e = absurd (cc)
text_shallow (object found) text e = absurd (cc)

list_shallow : (n : ℕ) (tree : Data) (trees : Items) → as_array tree ≡ Some trees → AllShallow n trees → IsShallow (n + 1) tree
list_shallow n null trees e small = absurd (cc)
list_shallow n (boolean b) trees e small = absurd (cc)
list_shallow n (number k) trees e small = absurd (cc)
list_shallow n (string s) trees e small = absurd (cc)
list_shallow n (array found) trees e small =
    let same : found ≡ trees = cc in
    let d = small.deep in
    record { deep = rw same (omega arith); whole = rw same small.whole }
list_shallow n (object found) trees e small = absurd (cc)

object_shallow : (n : ℕ) (found : Members) → AreShallow n found → IsShallow (n + 1) (object found)
object_shallow n found small = let d = small.deep in record { deep = omega arith; whole = small.whole }

-- what is found under a key is the first member, or one after it
found_at : {P : Type 0} → (o : Ordering) (key name : List ℕ) (here there : Data) (later : Option Data) → slice_cmp nat_cmp key name ≡ o
    → match_ordering o later (Some here) later ≡ Some there
    → (key ≡ name → here ≡ there → P) → (later ≡ Some there → P) → P
found_at Less key name here there later is e first second = second e
found_at Equal key name here there later is e first second = first ((bytes_eq-Decides key name).0 (sym (is_eq-slice_cmp key name) ∙ ap is_eq is)) (cc)
found_at Greater key name here there later is e first second = second e

found : {P : Type 0} → (key name : List ℕ) (here there : Data) (rest : Members) → get_member key (member name here rest) ≡ Some there
    → (key ≡ name → here ≡ there → P) → (get_member key rest ≡ Some there → P) → P
found key name here there rest e first second = found_at _ key name here there (get_member key rest) refl e first second

nowhere : {P : Type 0} → (key : List ℕ) (there : Data) → get_member key no_members ≡ Some there → P
nowhere key there e = absurd (cc)

-- the one member of an object
one_shallow : (n : ℕ) (key : List ℕ) (members : Members) (there : Data) → members_len members ≡ 1 → get_member key members ≡ Some there → IsShallow n there
    → AreShallow n members
one_shallow n key no_members there one e small = absurd (omega arith)
one_shallow n key (member name here no_members) there one e small =
    let same : here ≡ there = found key name here there no_members e (λ k h. h) (nowhere key there) in
    let d = small.deep in
    record { deep = rw same (omega arith); whole = rw (same, small.whole) }
one_shallow n key (member name here (member name' here' rest)) there one e small = absurd (omega arith)

both_shallow : (n : ℕ) (name name' : List ℕ) (here here' : Data) → IsShallow n here → IsShallow n here'
    → AreShallow n (member name here (member name' here' no_members))
both_shallow n name name' here here' small small' =
    let d = small.deep in
    let d' = small'.deep in
    record { deep = omega arith; whole = rw (small.whole, small'.whole) }

-- the two members of an object that has two
two_shallow : (n : ℕ) (key key' : List ℕ) (members : Members) (there there' : Data) → (key ≡ key' → ⊥) → members_len members ≡ 2
    → get_member key members ≡ Some there → get_member key' members ≡ Some there'
    → IsShallow n there → IsShallow n there' → AreShallow n members
two_shallow n key key' no_members there there' apart two e e' small small' = absurd (omega arith)
two_shallow n key key' (member name here no_members) there there' apart two e e' small small' = absurd (omega arith)
two_shallow n key key' (member name here (member name' here' no_members)) there there' apart two e e' small small' =
    found key name here there (member name' here' no_members) e
    (λ k h. found key' name here there' (member name' here' no_members) e' (λ k' h'. absurd (apart (cc)))
    (λ r'. found key' name' here' there' no_members r' (λ k' h'. both_shallow n name name' here here' (rw h small) (rw h' small')) (nowhere key' there')))
    (λ r. found key name' here' there no_members r
    (λ k h. found key' name here there' (member name' here' no_members) e' (λ k' h'. both_shallow n name name' here here' (rw h' small') (rw h small))
    (λ r'. found key' name' here' there' no_members r' (λ k' h'. absurd (apart (cc))) (nowhere key' there')))
    (nowhere key there))
two_shallow n key key' (member name here (member name' here' (member name'' here'' rest))) there there' apart two e e' small small' = absurd (omega arith)

-- an object of one member, and of two
sole_shallow : (n : ℕ) (key : List ℕ) (tree there : Data) → member_count tree ≡ 1 → get key tree ≡ Some there → IsShallow n there → IsShallow (n + 1) tree
sole_shallow n key null there one e small = absurd (cc)
sole_shallow n key (boolean b) there one e small = absurd (cc)
sole_shallow n key (number k) there one e small = absurd (cc)
sole_shallow n key (string s) there one e small = absurd (cc)
sole_shallow n key (array trees) there one e small = absurd (cc)
sole_shallow n key (object found) there one e small = object_shallow n found (one_shallow n key found there one e small)

pair_shallow : (n : ℕ) (key key' : List ℕ) (tree there there' : Data) → (key ≡ key' → ⊥) → member_count tree ≡ 2 → get key tree ≡ Some there
    → get key' tree ≡ Some there' → IsShallow n there → IsShallow n there' → IsShallow (n + 1) tree
pair_shallow n key key' null there there' apart two e e' small small' = absurd (cc)
pair_shallow n key key' (boolean b) there there' apart two e e' small small' = absurd (cc)
pair_shallow n key key' (number k) there there' apart two e e' small small' = absurd (cc)
pair_shallow n key key' (string s) there there' apart two e e' small small' = absurd (cc)
pair_shallow n key key' (array trees) there there' apart two e e' small small' = absurd (cc)
pair_shallow n key key' (object found) there there' apart two e e' small small' = object_shallow n found
    (two_shallow n key key' found there there' apart two e e' small small')

alone_shallow : (n : ℕ) (key : List ℕ) (tree there : Data) → alone_at key tree ≡ Some there → IsShallow n there → IsShallow (n + 1) tree
alone_shallow n key tree there e small =
    if_some (member_count tree == 1) (get key tree) there e (λ one h. sole_shallow n key tree there (eqb-true _ _ one) h small)

text_alone_shallow : (key : List ℕ) (tree : Data) (text : List ℕ) → text_alone key tree ≡ Some text → IsShallow 1 tree
unfolding text_alone
text_alone_shallow key tree text e =
    option_and_then_some as_str (alone_at key tree) text e (λ there at is. alone_shallow 0 key tree there at (text_shallow there text is))

keyed_shallow : {A B : Type 0} → (key : List ℕ) (named : List ℕ → Option A) (f : A → B) (tree : Data) (one : B)
    → option_map f (option_and_then named (text_alone key tree)) ≡ Some one → IsShallow 1 tree
keyed_shallow key named f tree one e =
    option_map_some f (option_and_then named (text_alone key tree)) one e
    (λ word is. option_and_then_some named (text_alone key tree) word is (λ text at _. text_alone_shallow key tree text at))

item_shallow : (tree : Data) (one : Item) → item_of tree ≡ Some one → IsShallow 1 tree
unfolding item_of
item_shallow tree one e =
    or_else_some (text_item tree) (or_else (tag_item tree) (action_item tree)) one e
    (λ h. option_map_some _ (as_str tree) one h (λ text is. deeper 0 1 tree (omega arith) (text_shallow tree text is)))
    (λ h. or_else_some (tag_item tree) (action_item tree) one h
    (λ k. keyed_shallow (codes "tag") tag_named item.Tag tree one k)
    (λ k. keyed_shallow (codes "action") hook_named item.Action tree one k))

element_shallow : (tree : Data) (one : Element) → element_of tree ≡ Some one → IsShallow 1 tree
unfolding element_of
element_shallow tree one e =
    or_else_some (option_map element.Item (item_of tree)) (part_element tree) one e
    (λ h. option_map_some element.Item (item_of tree) one h (λ x is. item_shallow tree x is))
    (λ h. keyed_shallow (codes "part") part_named element.Part tree one h)

all_shallow : {A : Type 0} → (n : ℕ) (is : Data → Option A) (trees : Items) (all : List A) → ((tree : Data) (one : A) → is tree ≡ Some one → IsShallow n tree)
    → all_of is trees ≡ Some all → AllShallow n trees
unfolding all_of
all_shallow n is no_items all each e = record { deep = omega arith; whole = refl }
all_shallow n is (json.item tree trees) all each e =
    option_and_then_some _ (is tree) all e
    (λ first here more. option_map_some _ (all_of is trees) all more
    (λ rest there.
    let small = each tree first here in
    let others = all_shallow n is trees rest each there in
    let d = small.deep in
    let d' = others.deep in
    record { deep = omega arith; whole = rw (small.whole, others.whole) }))

list_of_shallow : {A : Type 0} → (n : ℕ) (is : Data → Option A) (tree : Data) (all : List A)
    → ((one_tree : Data) (one : A) → is one_tree ≡ Some one → IsShallow n one_tree) → list_of is tree ≡ Some all → IsShallow (n + 1) tree
list_of_shallow n is tree all each e = option_and_then_some _ (as_array tree) all e
    (λ trees at are. list_shallow n tree trees at (all_shallow n is trees all each are))

elements_shallow : (tree : Data) (all : List Element) → list_of element_of tree ≡ Some all → IsShallow 2 tree
elements_shallow tree all e = list_of_shallow 1 element_of tree all element_shallow e

keys_apart : codes "loop" ≡ codes "else" → ⊥
keys_apart h = let first = ap (λ name. get_or name 0 0) h in omega arith

loop_shallow : (tree : Data) (one : Node) → loop_of tree ≡ Some one → IsShallow 3 tree
unfolding loop_of
loop_shallow tree one e =
    option_and_then_some _ (elements_at (codes "loop") tree) one e
    (λ body at made. option_and_then_some elements_of (get (codes "loop") tree) body at
    (λ there found are.
    let small = elements_shallow there body are in
    elim (cases_Bool (member_count tree == 1)) [
      | inl alone ↦ sole_shallow 2 (codes "loop") tree there (eqb-true _ _ alone) found small
      | inr other ↦ if_some (member_count tree == 2) (option_map (λ otherwise. node.Loop body otherwise) (elements_at (codes "else") tree)) one
          (rw other at made)
          (λ two h. option_map_some _ (elements_at (codes "else") tree) one h
          (λ otherwise at'. option_and_then_some elements_of (get (codes "else") tree) otherwise at'
          (λ there' found' are'. pair_shallow 2 (codes "loop") (codes "else") tree there there' keys_apart (eqb-true _ _ two) found found' small
          (elements_shallow there' otherwise are'))))
    ]))

node_shallow : (tree : Data) (one : Node) → node_of tree ≡ Some one → IsShallow 3 tree
unfolding node_of
node_shallow tree one e =
    or_else_some (option_map node.Element (element_of tree)) (loop_of tree) one e
    (λ h. option_map_some node.Element (element_of tree) one h (λ x is. deeper 1 3 tree (omega arith) (element_shallow tree x is)))
    (λ h. loop_shallow tree one h)

node_in_shallow : (in_part : Bool) (tree : Data) (one : Node) → node_in in_part tree ≡ Some one → IsShallow 3 tree
unfolding node_in
node_in_shallow true tree one e = option_map_some _ (item_of tree) one e (λ x is. deeper 1 3 tree (omega arith) (item_shallow tree x is))
node_in_shallow false tree one e = node_shallow tree one e

tree_shallow : (name : List ℕ) (tree : Data) (nodes : List Node) → tree_of name tree ≡ Some nodes → IsShallow 4 tree
unfolding tree_of
tree_shallow name tree nodes e =
    if_some (is_template_name name) (nodes_of (is_part_name name) tree) nodes e
    (λ named h. list_of_shallow 3 (node_in (is_part_name name)) tree nodes (node_in_shallow (is_part_name name)) h)

of_size_ok : {P : Type 0} → (found : Option (List Node)) (template : Template) → of_size found ≡ Ok template → ((nodes : List Node) → found ≡ Some nodes → P)
    → P
of_size_ok None template e next = absurd (cc)
of_size_ok (Some nodes) template e next = next nodes refl

pub template_shallow : (name : List ℕ) (tree : Data) (template : Template) → template_of name tree ≡ Ok template → IsShallow 4 tree
unfolding template_of
template_shallow name tree template e = of_size_ok (tree_of name tree) template e (λ nodes is. tree_shallow name tree nodes is)

-- a text that reads as the tree is the template that the tree is
pub stored_template-read : (name text : List ℕ) (tree : Data) (template : Template) → read text ≡ Some tree → template_of name tree ≡ Ok template
    → stored_template name text ≡ Some template
unfolding stored_template
stored_template-read name text tree template e is = ap (λ found. option_and_then (λ one. result_ok (template_of name one)) found) e ∙ ap result_ok is
