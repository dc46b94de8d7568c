use Rattle.std.proofs.Common.{◌≡◌, take, drop, bytes_eq}
use Rattle.callback_store.specs.Faults.{has_repeat}
use Rattle.callback_store.proofs.Repeats.{repeats}
use Rattle.callback_store.proofs.plugins.has_same_name.Given as goal

-- a name is repeated exactly if one of the rest has a name of those passed, or a name is repeated in the rest
abbrev pub invariant-loop-at : goal.invariant-loop-at
invariant-loop-at g l = has_repeat (λ p q. bytes_eq p.name q.name) l.list ≡ repeats (λ p q. bytes_eq p.name q.name) (take l.at l.list) (drop l.at l.list)
