use Rattle.std.proofs.Common.{ap, ◌∷◌, ◌∙◌}
use Rattle.hook_machine.specs.Outcomes.{engine_over}
use Rattle.hook_machine.specs.Cuts.{PassOverText}
use Rattle.hook_machine.specs.declared.run.frames.Frame.TheVariants as frame
use Rattle.hook_machine.proofs.Moving.{filter_begins}
use Rattle.hook_machine.proofs.run.texts.filter_turn.Goals as goal

pub returns-clause-moves : goal.returns-clause-moves
returns-clause-moves g c =
    filter_begins (engine_over g.S.Stated.says g.S.Stated.number c.args.plugins.now) c.args.state.now c.args.pass c.args.matched
    c.args.answer c.core-hook.result c.in_ok-text.text c.in_ok-args.args c.args.stack.now c.put_first.new.self c.core-hook.ensures c.in_ok-text.ensures
    (rw c.text.ensures at c.in_ok-args.ensures)
    (c.in_ok-put_first.ensures.ok ∙ ap (λ (p : PassOverText). frame.Shortcodes p ∷ c.args.stack.now) c.put_away.ensures) _ _ _
    c.begin_filter.ensures.moves
