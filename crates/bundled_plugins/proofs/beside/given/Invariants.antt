use Rattle.std.proofs.Common.{◌≡◌, map, take}
use Rattle.bundled_plugins.specs.Beside.{number_of}
use Rattle.bundled_plugins.proofs.beside.given.Given as goal

-- the callbacks have the numbers so far
abbrev pub invariant-loop-number : goal.invariant-loop-number
invariant-loop-number g l = map (number_of g.P.Stated.number) l.given ≡ take l.number-index l.numbers
