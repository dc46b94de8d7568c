use Rattle.std.proofs.Common.{◌≡◌, ◌-◌, ◌^◌, min, sum_by, take}
use Rattle.template_trees.specs.Trees.{element_bytes}
use Rattle.template_trees.proofs.size.elements_bytes.Given as goal

-- the sum so far, or the largest number of the type
abbrev pub invariant-loop-element : goal.invariant-loop-element
invariant-loop-element l = l.bytes ≡ min (sum_by element_bytes (take l.element-index l.elements)) (2 ^ 64 - 1)
