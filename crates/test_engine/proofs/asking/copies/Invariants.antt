use Rattle.std.proofs.Common.{◌≡◌, take}
use Rattle.test_engine.proofs.asking.copies.Given as goal

-- the copies so far
abbrev pub invariant-loop-text : goal.invariant-loop-text
invariant-loop-text l = l.copies ≡ take l.text-index l.texts
