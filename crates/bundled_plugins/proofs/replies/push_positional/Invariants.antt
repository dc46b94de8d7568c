use Rattle.std.proofs.Common.{◌≡◌, ◌++◌, map, take, string_bytes}
use Rattle.bundled_plugins.specs.Replies.{positional_listed}
use Rattle.bundled_plugins.proofs.replies.push_positional.Given as goal

-- the text is followed by the values so far
abbrev pub invariant-loop-value : goal.invariant-loop-value
invariant-loop-value l = l.text ≡ l.initial.text ++ positional_listed (map string_bytes (take l.value-index l.values))
