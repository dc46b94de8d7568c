use Rattle.std.proofs.Common.{◌<◌, ◌∙◌, length, ap, subst}
use Rattle.template_trees.specs.declared.tree.Template.{Template}
use Rattle.template_parts.specs.Places.{items_of}
use Rattle.template_parts.proofs.Building.{node_more}
use Rattle.template_parts.proofs.steps.push_nodes.Goals as goal

-- one node more
pub loop-at-preserved : goal.loop-at-preserved
loop-at-preserved c =
    let settings = c.args.settings.now in
    let nodes = c.as_slice-at-end.ensures ∙ ap (λ (t : Template). t.nodes) c.get.ensures in
    let inside = subst (λ nodes. c.loop-at.at < length nodes) nodes c.loop-at-test.true in
    rw c.in_ok-push.ensures.items
    (node_more settings c.args.part c.args.template.now c.loop-at.places.items (items_of settings c.args.places.now.items) c.loop-at.at c.requires inside
    c.loop-at.invariant)
