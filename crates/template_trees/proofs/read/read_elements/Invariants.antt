use Rattle.std.proofs.Common.{◌≡◌, drop}
use Rattle.serde_json.specs.View.{items_view}
use Rattle.template_trees.specs.Trees.{all_of, element_of}
use Rattle.template_trees.proofs.Walks.{in_front}
use Rattle.template_trees.proofs.read.read_elements.Given as goal

-- the whole list is what was read of it, and then what the rest is
abbrev pub invariant-loop-value : goal.invariant-loop-value
invariant-loop-value l = all_of element_of (items_view l.list) ≡ in_front l.elements (all_of element_of (items_view (drop l.value-index l.list)))
