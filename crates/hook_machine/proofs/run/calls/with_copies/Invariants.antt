use Rattle.std.proofs.Common.{◌≡◌, ◌++◌, take}
use Rattle.hook_machine.proofs.run.calls.with_copies.Given as goal

-- the given texts are followed by the copies of those that were passed
abbrev pub invariant-loop-text : goal.invariant-loop-text
invariant-loop-text l = l.all.items ≡ l.fn.given.items ++ take l.text-index l.texts
