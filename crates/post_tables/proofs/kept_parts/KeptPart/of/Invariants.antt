use Rattle.std.proofs.Common.{◌≡◌, map, take}
use Rattle.post_tables.proofs.kept_parts.KeptPart.of.Given as goal

abbrev pub invariant-loop-post : goal.invariant-loop-post
invariant-loop-post l = l.ids.items ≡ map (λ p. p.id) (take l.post-index l.posts)
