use Rattle.std.proofs.Common.{◌≡◌, map, take}
use Rattle.hook_machine.proofs.LiveTags.{tags_among}
use Rattle.hook_machine.proofs.state.State.tags_among.Given as goal

-- the tags among the names that were passed
abbrev pub invariant-loop-name : goal.invariant-loop-name
invariant-loop-name l = l.tags.items ≡ tags_among l.self.tags (map (λ n. n.now) (take l.name-index l.names))
