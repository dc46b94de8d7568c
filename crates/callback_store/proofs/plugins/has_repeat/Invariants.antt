use Rattle.std.proofs.Common.{◌≡◌, ◌==◌, take, drop}
use Rattle.callback_store.specs.Faults.{has_repeat}
use Rattle.callback_store.proofs.Repeats.{repeats}
use Rattle.callback_store.proofs.plugins.has_repeat.Given as goal

-- the numbers passed were seen, and a number is repeated exactly if one of the rest is among them, or is repeated in
-- the rest
abbrev pub invariant-loop-number : goal.invariant-loop-number
invariant-loop-number l = record {
  seen : l.seen.keys ≡ take l.number-index l.numbers;
  repeat : has_repeat (λ m n. m == n) l.numbers ≡ repeats (λ m n. m == n) (take l.number-index l.numbers) (drop l.number-index l.numbers);
}
