use Rattle.std.proofs.Common.{◌≡◌, ◌++◌, take}
use Rattle.template_parts.specs.Pages.{elements_items}
use Rattle.template_parts.specs.Places.{items_of}
use Rattle.template_parts.proofs.steps.push_elements.Given as goal

-- the elements that were passed
abbrev pub invariant-loop-at : goal.invariant-loop-at
invariant-loop-at l = items_of l.settings l.places.items ≡ items_of l.settings l.initial.places.items ++ elements_items l.settings (take l.at l.elements)
