use Rattle.std.proofs.Common.{not, sym, ap, ◌∙◌}
use Rattle.hook_machine.proofs.Bare.{nothing}
use Rattle.hook_machine.proofs.run.calls.has_none.Goals as goal

pub returns-then-is_none : goal.returns-then-is_none
returns-then-is_none c =
    λ empty. nothing _ c.pair.result _ c.positional.result.now c.args.atts.now (c.is_none.ensures ∙ ap not c.if-is_none.true) c.pair.ensures
    c.positional.ensures (sym c.is_empty.ensures ∙ empty)
