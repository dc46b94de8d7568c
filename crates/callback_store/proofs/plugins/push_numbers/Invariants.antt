use Rattle.std.proofs.Common.{◌≡◌, ◌++◌, map, take}
use Rattle.callback_store.proofs.plugins.push_numbers.Given as goal

-- the numbers of the callbacks that were passed come after those that were there
abbrev pub invariant-loop-callback : goal.invariant-loop-callback
invariant-loop-callback g l = l.numbers.items ≡ l.fn.numbers.items ++ map g.S.Stated.number (take l.callback-index l.callbacks)
