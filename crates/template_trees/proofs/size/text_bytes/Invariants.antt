use Rattle.std.proofs.Common.{◌≡◌, ◌-◌, ◌^◌, min, sum_by, take}
use Rattle.template_trees.specs.Trees.{node_bytes}
use Rattle.template_trees.proofs.size.text_bytes.Given as goal

-- the sum so far, or the largest number of the type
abbrev pub invariant-loop-node : goal.invariant-loop-node
invariant-loop-node l = l.bytes ≡ min (sum_by node_bytes (take l.node-index l.nodes)) (2 ^ 64 - 1)
