use Rattle.std.proofs.Common.{◌≡◌, ◌-◌, ◌^◌, min, sum_by, take}
use Rattle.template_trees.specs.Trees.{node_count}
use Rattle.template_trees.proofs.size.count_of.Given as goal

-- the sum so far, or the largest number of the type
abbrev pub invariant-loop-node : goal.invariant-loop-node
invariant-loop-node l = l.count ≡ min (sum_by node_count (take l.node-index l.nodes)) (2 ^ 64 - 1)
