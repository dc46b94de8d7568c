use Rattle.std.proofs.Common.{ap, not, ◌∙◌}
use Rattle.page_escapes.proofs.Entities.{lacks_marks}
use Rattle.page_escapes.proofs.has_no_mark.Goals as goal

pub returns-then-is_none : goal.returns-then-is_none
returns-then-is_none c =
    λ none.
    lacks_marks c.args.text.now c.memchr3.result c.memchr2.result (rw c.as_bytes-bytes.ensures.value at c.memchr3.ensures)
    (rw c.as_bytes-bytes.ensures.value at c.memchr2.ensures) (c.is_none.ensures ∙ ap not c.if-is_none.true) (c.is_none-then-is_none.ensures ∙ ap not none)
