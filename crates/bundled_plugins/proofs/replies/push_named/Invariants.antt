use Rattle.std.proofs.Common.{◌≡◌, ◌++◌, take}
use Rattle.bundled_plugins.specs.Replies.{named_listed}
use Rattle.bundled_plugins.proofs.replies.push_named.Given as goal

-- the text is followed by the attributes so far
abbrev pub invariant-loop-at : goal.invariant-loop-at
invariant-loop-at l = l.text ≡ l.initial.text ++ named_listed (take l.at l.atts.named)
