use Rattle.std.proofs.Common.{◌≡◌, map, take}
use Rattle.site_store.proofs.templates.names_of.Given as goal

-- the names are those of the pairs so far
abbrev pub invariant-loop-name : goal.invariant-loop-name
invariant-loop-name l = l.names ≡ map (λ text. text.0) (take l.name-index l.texts)
