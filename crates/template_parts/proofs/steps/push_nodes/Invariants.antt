use Rattle.std.proofs.Common.{◌≡◌, ◌++◌, take, flat_map}
use Rattle.template_parts.specs.Pages.{part_node_items}
use Rattle.template_parts.specs.Places.{items_of}
use Rattle.template_parts.proofs.steps.push_nodes.Given as goal

-- the nodes that were passed
abbrev pub invariant-loop-at : goal.invariant-loop-at
invariant-loop-at l = items_of l.settings l.places.items ≡ items_of l.settings l.initial.places.items ++ flat_map part_node_items (take l.at l.template.nodes)
