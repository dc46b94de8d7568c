use Rattle.std.proofs.Common.{◌≡◌, length}
use Rattle.std.specs.List.{list_any}
use Rattle.http1.specs.Fields.{elements}
use Rattle.http_messages.specs.EntityTag.{is_listed}
use Rattle.http_messages.proofs.entity_tag.lists.Given as goal

abbrev pub invariant-loop-comma : goal.invariant-loop-comma
invariant-loop-comma l = list_any (is_listed l.fn.tag) (elements l.rest) ≡ list_any (is_listed l.fn.tag) (elements l.fn.condition)

abbrev pub decreases-loop-comma : goal.decreases-loop-comma
decreases-loop-comma l = length l.rest
