use Rattle.template_parts.proofs.Moving.{all_left}
use Rattle.template_parts.specs.Places.{items_left}
use Rattle.template_parts.proofs.page.ahead_from.Goals as goal

-- nothing was done yet
pub returns-in_ok-steps_of_page-in-None-clause-left : goal.returns-in_ok-steps_of_page-in-None-clause-left
returns-in_ok-steps_of_page-in-None-clause-left c =
    λ engine world left.
    rw c.in-None.is
    (all_left engine c.args.settings.now c.args.posts.now world (items_left c.args.settings.now c.args.posts.now c.in_ok-steps_of_page-in-None.field-0)
    c.in_ok-steps_of_page-in-None.ensures)
