use Rattle.std.proofs.Common.{◌≡◌, ◌++◌, map, take}
use Rattle.template_parts.proofs.steps.push_over.Given as goal

-- the places that were passed
abbrev pub invariant-loop-place : goal.invariant-loop-place
invariant-loop-place l = l.steps.items ≡ l.initial.steps.items ++ map (λ place. record { post = l.post; place = place }) (take l.place-index l.places)
