use Rattle.std.proofs.Common.{sym, ◌∙◌}
use Rattle.hook_machine.proofs.Bare.{spelled_by_nothing}
use Rattle.hook_machine.proofs.run.calls.set_attributes.Goals as goal

pub returns-then-has_none : goal.returns-then-has_none
returns-then-has_none c =
    c.has_none.ensures c.if-has_none.true ∙ sym (spelled_by_nothing c.args.text.now (sym c.is_empty.ensures ∙ c.if-is_empty.true))
