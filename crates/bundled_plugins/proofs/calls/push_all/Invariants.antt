use Rattle.std.proofs.Common.{◌≡◌, ◌++◌, take, flat_map}
use Rattle.bundled_plugins.proofs.calls.push_all.Given as goal

-- the text is followed by the texts so far
abbrev pub invariant-loop-part : goal.invariant-loop-part
invariant-loop-part l = l.text ≡ l.initial.text ++ flat_map (λ part. part.now) (take l.part-index l.parts)
