use Rattle.std.proofs.Common.{◌∙◌, sym}
use Rattle.template_trees.specs.Trees.{element_of}
use Rattle.template_trees.proofs.Walks.{in_front-nil, one_more, none_there, all_read}
use Rattle.template_trees.proofs.read.read_elements.Goals as goal

pub loop-value-init : goal.loop-value-init
loop-value-init c = rw c.empty-elements.ensures (sym (in_front-nil _))

pub returns-in_default : goal.returns-in_default
returns-in_default c = none_there element_of _ _ _ _ _ c.loop-value-test.true c.value-item.is (sym c.in_default.is ∙ c.in_ok-element.ensures)
    c.loop-value.invariant

pub loop-value-preserved : goal.loop-value-preserved
loop-value-preserved c =
    let before = c.loop-value.invariant in
    rw c.in_ok-push.ensures.ok (one_more element_of _ _ _ _ c.in-Some.element _ c.loop-value-test.true c.value-item.is
    (sym c.in-Some.is ∙ c.in_ok-element.ensures) before)

pub returns : goal.returns
returns c = all_read element_of _ _ _ _ c.loop-value-test.false c.loop-value.invariant
