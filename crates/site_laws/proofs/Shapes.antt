-- The tree of a template has no numbers, and is shallow.
use Rattle.std.proofs.Common.{◌≡◌, ◌⊎◌, inl, inr, ℕ, suc, ◌≤◌, List, ◌∷◌, Bool, true, false, Option, None, Some, Result, Ok, Err, Less, Equal, Greater, true≢false, refl, sym, ap, subst, ◌∙◌, arith}
use Rattle.std.specs.Prelude.{codes, IfSome, IfOk, is_some, option_map, option_and_then, if◌then◌else◌}
use Rattle.std.specs.declared.cmp.Ordering.{Ordering}
use Rattle.std.specs.Ordering.{match_ordering}
use Rattle.std.specs.FinMap.{slice_cmp-IsAntisymmetric, nat_cmp-IsAntisymmetric}
use Rattle.std.specs.Str.{bytes_eq}
use Rattle.std.proofs.lemmas.Bool.{ne_eqb}
use Rattle.serde_json.specs.Events.{members_len}
use Rattle.serde_json.specs.Data.{Data, null, boolean, number, string, array, object, Items, no_items, item, Members, no_members, member, depth, items_depth}
use Rattle.serde_json.specs.Find.{get_member, as_null, as_str}
use Rattle.serde_json.specs.Written.{compact_text}
use Rattle.plain_data.specs.Texts.{Text}
use Rattle.post_tables.specs.Rows.{by_bytes}
use Rattle.template_trees.specs.Trees.{text_alone, or_else, all_of, list_of, text_item, tag_named, tag_item, hook_named, action_item, item_of}
use Rattle.template_trees.specs.Trees.{part_named, part_element, element_of, elements_of, elements_at, loop_over, loop_of, node_of, node_in, nodes_of}
use Rattle.template_trees.specs.Trees.{is_part_name, is_template_name, tree_of, fits, of_size, template_of}
use Rattle.template_trees.specs.declared.fault.TemplateFault.TheVariants.{TooLarge}
use Rattle.template_trees.specs.declared.tree.Element.{Element}
use Rattle.template_trees.specs.declared.tree.Element.TheVariants as element
use Rattle.template_trees.specs.declared.tree.Item.TheVariants as item_kind
use Rattle.template_trees.specs.declared.tree.Node.{Node}
use Rattle.template_trees.specs.declared.tree.Node.TheVariants as node
use Rattle.template_trees.specs.declared.tree.Template.{Template}
use Rattle.site_laws.specs.Stored.{IsTemplate}
use Rattle.site_laws.proofs.Results.{some_map, some_if, some_weaker, none_then, ok_is}
use Rattle.site_laws.proofs.Trees.{IsOrdered, IsPlain, ArePlain, plain_numbers, outline_depth, read_back}

-- no numbers, and no deeper than this
pub record Fits (n : ℕ) (d : Data) : Type 0 where
  pub plain : IsPlain d
  pub shallow : depth d ≤ n

deeper : (n m : ℕ) (d : Data) → n ≤ m → Fits n d → Fits m d
deeper n m d h is = record { plain = is.plain; shallow = let low = is.shallow in omega (arith, h, low) }

module _ {A B : Type 0} (P : Type 0) where
  -- what is found only if something was
  mapped : (f : A → B) (o : Option A) → IfSome o (λ _. P) → IfSome (option_map f o) (λ _. P)
  mapped f o is = some_map (λ _. P) (λ _. P) f (λ a p. p) o is

  after : (f : A → Option B) (o : Option A) → IfSome o (λ _. P) → IfSome (option_and_then f o) (λ _. P)
  after f None is = tt
  after f (Some a) is = when (f a)
    where
      when : (o : Option B) → IfSome o (λ _. P)
      when None = tt
      when (Some b) = is

either : {A : Type 0} (P : Type 0) (one other : Option A) → IfSome one (λ _. P) → IfSome other (λ _. P) → IfSome (or_else one other) (λ _. P)
either P None other h g = g
either P (Some a) other h g = h

text_fits : (tree : Data) → IfSome (as_str tree) (λ _. Fits 0 tree)
text_fits null = tt
text_fits (boolean b) = tt
text_fits (number n) = tt
text_fits (string s) = record { plain = tt; shallow = omega arith }
text_fits (array ds) = tt
text_fits (object ms) = tt

-- ---- an object with one key

one_text : (o : Ordering) (k : List ℕ) (d : Data) → IfSome (option_and_then as_str (match_ordering o None (Some d) None)) (λ _. Fits 1 (object (member k d no_members)))
one_text Less k d = tt
one_text Greater k d = tt
one_text Equal k d = some_weaker (λ _. Fits 0 d) (λ _. Fits 1 (object (member k d no_members)))
    (λ s is. record { plain = (is.plain, tt); shallow = let low = is.shallow in omega (arith, low) }) (as_str d) (text_fits d)

alone_fits : (key : List ℕ) (tree : Data) → IfSome (text_alone key tree) (λ _. Fits 1 tree)
unfolding text_alone
alone_fits key null = tt
alone_fits key (boolean b) = tt
alone_fits key (number n) = tt
alone_fits key (string s) = tt
alone_fits key (array ds) = tt
alone_fits key (object no_members) = tt
alone_fits key (object (member k d no_members)) = one_text (by_bytes key k) k d
alone_fits key (object (member k d (member l e ms))) = rw (ne_eqb (suc (suc (members_len ms))) 1 (λ e. omega (arith, e))) tt

-- ---- items and elements

item_fits : (tree : Data) → IfSome (item_of tree) (λ _. Fits 1 tree)
unfolding item_of
item_fits tree =
    let P = Fits 1 tree in
    either P (text_item tree) (or_else (tag_item tree) (action_item tree))
    (mapped P item_kind.Text (as_str tree) (some_weaker (λ _. Fits 0 tree) (λ _. P) (λ s is. deeper 0 1 tree (omega arith) is) (as_str tree) (text_fits tree)))
    (either P (tag_item tree) (action_item tree)
    (mapped P item_kind.Tag _ (after P tag_named (text_alone (codes "tag") tree) (alone_fits (codes "tag") tree)))
    (mapped P item_kind.Action _ (after P hook_named (text_alone (codes "action") tree) (alone_fits (codes "action") tree))))

element_fits : (tree : Data) → IfSome (element_of tree) (λ _. Fits 1 tree)
unfolding element_of
element_fits tree =
    let P = Fits 1 tree in
    either P (option_map element.Item (item_of tree)) (part_element tree) (mapped P element.Item (item_of tree) (item_fits tree))
    (mapped P element.Part _ (after P part_named (text_alone (codes "part") tree) (alone_fits (codes "part") tree)))

-- ---- lists

module _ {A : Type 0} (is : Data → Option A) (n : ℕ) (each : (tree : Data) → IfSome (is tree) (λ _. Fits n tree)) where
  record AllFit (ds : Items) : Type 0 where
    plain : ArePlain ds
    shallow : items_depth ds ≤ n

  all_fit : (ds : Items) → IfSome (all_of is ds) (λ _. AllFit ds)
  unfolding all_of
  all_fit no_items = record { plain = tt; shallow = omega arith }
  all_fit (item d ds) = both (is d) (all_of is ds) (each d) (all_fit ds)
    where
      both : (o : Option A) (p : Option (List A)) → IfSome o (λ _. Fits n d) → IfSome p (λ _. AllFit ds)
          → IfSome (option_and_then (λ first. option_map (λ rest. first ∷ rest) p) o) (λ _. AllFit (item d ds))
      both None p one more = tt
      both (Some a) None one more = tt
      both (Some a) (Some rest) one more = record {
        plain = (one.plain, more.plain);
        shallow = let first = one.shallow in let rest = more.shallow in omega (arith, first, rest);
      }

  list_fits : (tree : Data) → IfSome (list_of is tree) (λ _. Fits (suc n) tree)
  list_fits null = tt
  list_fits (boolean b) = tt
  list_fits (number m) = tt
  list_fits (string s) = tt
  list_fits (array ds) =
      some_weaker (λ _. AllFit ds) (λ _. Fits (suc n) (array ds)) (λ found are. record { plain = are.plain; shallow = let low = are.shallow in omega (arith, low) })
      (all_of is ds) (all_fit ds)
  list_fits (object ms) = tt

elements_fit : (tree : Data) → IfSome (elements_of tree) (λ _. Fits 2 tree)
elements_fit tree = list_fits element_of 1 element_fits tree

-- ---- loops

same_key : (k l : List ℕ) → by_bytes k l ≡ Equal → k ≡ l
same_key k l is = slice_cmp-IsAntisymmetric nat_cmp-IsAntisymmetric k l is

-- the value at a key is that of the first member, or is looked for in the others
first_or : (key k : List ℕ) (d : Data) (ms : Members) → ((key ≡ k) × (get_member key (member k d ms) ≡ Some d)) ⊎ (get_member key (member k d ms) ≡ get_member key ms)
first_or key k d ms = at (by_bytes key k) refl
  where
    at : (o : Ordering) → by_bytes key k ≡ o
        → ((key ≡ k) × (match_ordering o (get_member key ms) (Some d) (get_member key ms) ≡ Some d)) ⊎ (match_ordering o (get_member key ms) (Some d) (get_member key ms) ≡ get_member key ms)
    at Less is = inr refl
    at Equal is = inl (same_key key k is, refl)
    at Greater is = inr refl

the_same : (x y : Data) (o : Option Data) → o ≡ Some y → o ≡ Some x → x ≡ y
the_same x y o is also = let e : Some x ≡ Some y = sym also ∙ is in cc

none_is : (x : Data) (o : Option Data) → o ≡ None → o ≡ Some x → ⊥
none_is x o is also = let e : Some x ≡ None = sym also ∙ is in cc

apart : (k : List ℕ) → codes "loop" ≡ k → codes "else" ≡ k → ⊥
apart k one other = let clash : true ≡ false = ap is_loop (one ∙ sym other) in absurd (true≢false clash)
  where
    is_loop : List ℕ → Bool
    is_loop key = bytes_eq key (codes "loop")

module _ (k l : List ℕ) (d e : Data) where
  abbrev two : Members
  two = member k d (member l e no_members)

  -- both values are those of the two members
  both_fit : (x y : Data) → get_member (codes "loop") two ≡ Some x → get_member (codes "else") two ≡ Some y → Fits 2 x → Fits 2 y → Fits 2 d × Fits 2 e
  both_fit x y body other fx fy =
      elim (first_or (codes "loop") k d (member l e no_members)) [
        | inl here ↦
            let is : x ≡ d = the_same x d _ here.1 body in
            elim (first_or (codes "else") k d (member l e no_members)) [
              | inl also ↦ absurd (apart k here.0 also.0)
              | inr there ↦ elim (first_or (codes "else") l e no_members) [
                | inl second ↦ let it : y ≡ e = the_same y e _ (there ∙ second.1) other in (subst_fits x d is fx, subst_fits y e it fy)
                | inr nowhere ↦ absurd (none_is y _ (there ∙ nowhere) other)
              ]
            ]
        | inr there ↦ elim (first_or (codes "loop") l e no_members) [
          | inl second ↦
              let is : x ≡ e = the_same x e _ (there ∙ second.1) body in
              elim (first_or (codes "else") k d (member l e no_members)) [
                | inl first ↦ let it : y ≡ d = the_same y d _ first.1 other in (subst_fits y d it fy, subst_fits x e is fx)
                | inr later ↦ elim (first_or (codes "else") l e no_members) [
                  | inl also ↦ absurd (apart l second.0 also.0)
                  | inr nowhere ↦ absurd (none_is y _ (later ∙ nowhere) other)
                ]
              ]
          | inr nowhere ↦ absurd (none_is x _ (there ∙ nowhere) body)
        ]
      ]
    where
      subst_fits : (a b : Data) → a ≡ b → Fits 2 a → Fits 2 b
      subst_fits a b same is = subst (Fits 2) same is

  two_fit : Fits 2 d × Fits 2 e → Fits 3 (object two)
  two_fit h = record {
    plain = (h.0.plain, (h.1.plain, tt));
    shallow = let one = h.0.shallow in let other = h.1.shallow in omega (arith, one, other);
  }

  two_found : (o p : Option Data) → get_member (codes "loop") two ≡ o → get_member (codes "else") two ≡ p
      → IfSome (option_and_then (λ body. option_map (λ otherwise. node.Loop body otherwise) (option_and_then elements_of p)) (option_and_then elements_of o))
      (λ _. Fits 3 (object two))
  two_found None p body other = tt
  two_found (Some x) None body other = none_then (λ _. Fits 3 (object two)) _ (λ body. refl) (elements_of x)
  two_found (Some x) (Some y) body other = at (elements_of x) (elements_of y) (elements_fit x) (elements_fit y)
    where
      at : (a b : Option (List Element)) → IfSome a (λ _. Fits 2 x) → IfSome b (λ _. Fits 2 y)
          → IfSome (option_and_then (λ body. option_map (λ otherwise. node.Loop body otherwise) b) a) (λ _. Fits 3 (object two))
      at None b fx fy = tt
      at (Some a) None fx fy = tt
      at (Some a) (Some b) fx fy = two_fit (both_fit x y body other fx fy)

one_loop : (o : Ordering) (k : List ℕ) (d : Data) (f : List Element → Option Node)
    → IfSome (option_and_then f (option_and_then elements_of (match_ordering o None (Some d) None))) (λ _. Fits 3 (object (member k d no_members)))
one_loop Less k d f = tt
one_loop Greater k d f = tt
one_loop Equal k d f =
    after (Fits 3 (object (member k d no_members))) f (elements_of d)
    (some_weaker (λ _. Fits 2 d) (λ _. Fits 3 (object (member k d no_members)))
    (λ es is. record { plain = (is.plain, tt); shallow = let low = is.shallow in omega (arith, low) }) (elements_of d) (elements_fit d))

too_many : (k l m : List ℕ) (d e f : Data) (ms : Members) (body : List Element) → loop_over body (object (member k d (member l e (member m f ms)))) ≡ None
too_many k l m d e f ms body =
    let count = suc (suc (suc (members_len ms))) in
    rw (ne_eqb count 1 (λ h. omega (arith, h)), ne_eqb count 2 (λ h. omega (arith, h))) refl

loop_fits : (tree : Data) → IfSome (loop_of tree) (λ _. Fits 3 tree)
unfolding loop_of
loop_fits null = tt
loop_fits (boolean b) = tt
loop_fits (number n) = tt
loop_fits (string s) = tt
loop_fits (array ds) = tt
loop_fits (object no_members) = tt
loop_fits (object (member k d no_members)) =
    one_loop (by_bytes (codes "loop") k) k d (λ body. loop_over body (object (member k d no_members)))
loop_fits (object (member k d (member l e no_members))) = two_found k l d e _ _ refl refl
loop_fits (object (member k d (member l e (member m f ms)))) =
    let tree = object (member k d (member l e (member m f ms))) in
    none_then (λ _. Fits 3 tree) (λ body. loop_over body tree) (too_many k l m d e f ms) (elements_at (codes "loop") tree)

-- ---- templates

node_fits : (in_part : Bool) (tree : Data) → IfSome (node_in in_part tree) (λ _. Fits 3 tree)
unfolding node_in node_of
node_fits true tree =
    mapped (Fits 3 tree) (λ one. node.Element (element.Item one)) (item_of tree)
    (some_weaker (λ _. Fits 1 tree) (λ _. Fits 3 tree) (λ one is. deeper 1 3 tree (omega arith) is) (item_of tree) (item_fits tree))
node_fits false tree =
    either (Fits 3 tree) (option_map node.Element (element_of tree)) (loop_of tree)
    (mapped (Fits 3 tree) node.Element (element_of tree)
    (some_weaker (λ _. Fits 1 tree) (λ _. Fits 3 tree) (λ one is. deeper 1 3 tree (omega arith) is) (element_of tree) (element_fits tree)))
    (loop_fits tree)

sized : (P : Type 0) (o : Option (List Node)) → IfSome o (λ _. P) → IfOk (of_size o) (λ _. P)
sized P None is = tt
sized P (Some nodes) is = at (fits nodes)
  where
    at : (b : Bool) → IfOk (if b then Ok (record { nodes = nodes }) else Err TooLarge) (λ (t : Template). P)
    at true = is
    at false = tt

pub template_fits : (name : List ℕ) (tree : Data) → IfOk (template_of name tree) (λ _. Fits 4 tree)
unfolding template_of tree_of
template_fits name tree =
    sized (Fits 4 tree) (tree_of name tree)
    (some_if (λ _. Fits 4 tree) (is_template_name name) (nodes_of (is_part_name name) tree) None
    (list_fits (node_in (is_part_name name)) 3 (node_fits (is_part_name name)) tree) tt)

any_ok : {A E : Type 0} {P : Type 0} (r : Result A E) → P → IfOk r (λ _. P)
any_ok (Ok a) p = p
any_ok (Err e) p = tt

no_null : (name : List ℕ) (tree : Data) → IfOk (template_of name tree) (λ _. is_some (as_null tree) ≡ false)
unfolding template_of tree_of
no_null name null = sized (true ≡ false) (tree_of name null) (some_if (λ _. true ≡ false) (is_template_name name) None None tt tt)
no_null name (boolean b) = any_ok (template_of name (boolean b)) refl
no_null name (number n) = any_ok (template_of name (number n)) refl
no_null name (string s) = any_ok (template_of name (string s)) refl
no_null name (array ds) = any_ok (template_of name (array ds)) refl
no_null name (object ms) = any_ok (template_of name (object ms)) refl

-- a template of an ordered tree is stored as one that a site may store
pub stored_template : (name : Text) (body : Data) (result : Template) → IsOrdered body → template_of name body ≡ Ok result → IsTemplate (name, compact_text body)
stored_template name body result ordered is =
    let fit : Fits 4 body = ok_is (λ _. Fits 4 body) (template_of name body) result (template_fits name body) is in
    record {
      body = body;
      text = refl;
      some = ok_is (λ _. is_some (as_null body) ≡ false) (template_of name body) result (no_null name body) is;
      read = (result, is);
      back = read_back body fit.plain ordered;
      numbers = plain_numbers body fit.plain;
      shallow = let low = fit.shallow in let same = outline_depth body in omega (arith, low, same);
    }
