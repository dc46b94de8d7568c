use Rattle.std.proofs.Common.{ap, not, ◌∙◌}
use Rattle.page_escapes.proofs.Ends.{lacks_bracket, lacks_end}
use Rattle.page_escapes.proofs.has_no_end.Goals as goal

pub returns-then-is_none : goal.returns-then-is_none
returns-then-is_none c =
    λ none. lacks_bracket c.args.text.now c.memchr.result (rw c.as_bytes-bytes.ensures.value at c.memchr.ensures) (c.is_none.ensures ∙ ap not none)

pub returns-else-is_none : goal.returns-else-is_none
returns-else-is_none c =
    λ none. lacks_end c.args.text.now c.find.result (rw c.as_bytes-bytes.ensures.value at c.find.ensures) (c.is_none-else-is_none.ensures ∙ ap not none)
