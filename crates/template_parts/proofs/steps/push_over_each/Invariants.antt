use Rattle.std.proofs.Common.{◌≡◌, ◌++◌, Some, take, flat_map}
use Rattle.template_parts.specs.Pages.{over}
use Rattle.template_parts.specs.Places.{items_of, items_left}
use Rattle.template_parts.proofs.steps.push_over_each.Given as goal

-- the posts that were passed
abbrev pub invariant-loop-post : goal.invariant-loop-post
invariant-loop-post l =
    items_left l.settings l.posts l.steps.items
    ≡ items_left l.settings l.posts l.initial.steps.items ++ flat_map (λ p. over (Some p) (items_of l.settings l.places)) (take l.post l.posts)
