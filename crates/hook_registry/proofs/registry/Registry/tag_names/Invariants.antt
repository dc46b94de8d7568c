use Rattle.std.proofs.Common.{◌≡◌, map, take}
use Rattle.hook_registry.proofs.registry.Registry.tag_names.Given as goal

-- the names that were passed
abbrev pub invariant-loop-at : goal.invariant-loop-at
invariant-loop-at l = l.names.items ≡ map (λ p. p.0) (take l.at l.self.tags)
