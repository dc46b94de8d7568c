use Rattle.std.proofs.Common.{◌≡◌, ◌++◌, codes, take, flat_map}
use Rattle.test_engine.proofs.asking.listed.Given as goal

-- the arguments so far
abbrev pub invariant-loop-arg : goal.invariant-loop-arg
invariant-loop-arg l = l.text ≡ flat_map (λ arg. arg ++ codes ";") (take l.arg-index l.args)
