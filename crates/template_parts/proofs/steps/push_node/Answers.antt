use Rattle.std.proofs.Common.{◌≡◌, ◌∙◌, ◌++◌, sym, ap, subst}
use Rattle.std.proofs.lemmas.Bool.{eqb-true}
use Rattle.std.proofs.lemmas.List.{nil_from_length}
use Rattle.template_parts.specs.Pages.{element_items, elements_items}
use Rattle.template_parts.specs.Places.{items_of, items_left}
use Rattle.template_parts.proofs.Building.{over_none, loop_none}
use Rattle.template_parts.proofs.steps.push_node.Goals as goal

-- the node is an element
pub returns-in-Element : goal.returns-in-Element
returns-in-Element c =
    let settings = c.args.settings.now in
    rw c.in-Element.is
    (over_none settings c.args.posts.now c.args.steps.now.items c.push_over.new.steps.items c.new-places.result.items c.push_element.new.places.items
    c.as_slice.result.now (element_items settings c.in-Element.element) c.new-places.ensures.items c.as_slice.ensures.value
    c.in_ok-push_element-in-Element.ensures c.in_ok-push_over-in-Element.ensures)

-- the node is a loop, and no post was found
pub returns-then-is_empty : goal.returns-then-is_empty
returns-then-is_empty c =
    let settings = c.args.settings.now in
    let none = nil_from_length _ (eqb-true _ _ (sym c.is_empty.ensures ∙ c.if-is_empty.true)) in
    let gathered =
    subst (λ l. items_of settings c.push_elements.new.places.items ≡ items_of settings c.new-places.result.items ++ elements_items settings l)
    c.as_slice-elements.ensures c.in_ok-push_elements-in-Loop.ensures in
    rw c.in-Loop.is
    (over_none settings c.args.posts.now c.args.steps.now.items c.push_over-then-is_empty.new.steps.items c.new-places.result.items
    c.push_elements.new.places.items c.as_slice-then-is_empty.result.now (elements_items settings c.in-Loop.otherwise) c.new-places.ensures.items
    c.as_slice-then-is_empty.ensures.value gathered c.in_ok-push_over-in-Loop.ensures
    ∙ ap (λ l. items_left settings c.args.posts.now c.args.steps.now.items ++ l) (loop_none settings c.args.posts.now c.in-Loop.body c.in-Loop.otherwise none))
