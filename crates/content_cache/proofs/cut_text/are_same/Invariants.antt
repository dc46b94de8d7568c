use Rattle.std.proofs.Common.{◌≡◌, take}
use Rattle.content_cache.proofs.cut_text.are_same.Given as goal

-- the names that were passed are the same
abbrev pub invariant-loop-at : goal.invariant-loop-at
invariant-loop-at l = take l.at l.left ≡ take l.at l.right
