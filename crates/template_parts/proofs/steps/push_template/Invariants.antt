use Rattle.std.proofs.Common.{◌≡◌, ◌++◌, take, flat_map}
use Rattle.template_parts.specs.Pages.{node_items}
use Rattle.template_parts.specs.Places.{items_left}
use Rattle.template_parts.proofs.steps.push_template.Given as goal

-- the nodes that were passed
abbrev pub invariant-loop-at : goal.invariant-loop-at
invariant-loop-at l =
    items_left l.settings l.posts l.steps.items ≡ items_left l.settings l.posts l.initial.steps.items
    ++ flat_map (node_items l.settings l.posts) (take l.at l.settings.template.nodes)
