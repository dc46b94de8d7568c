use Rattle.std.proofs.lemmas.Result.{err_from_is_err_and}
use Rattle.hook_machine.specs.Outcomes.{engine_over}
use Rattle.hook_changes.specs.declared.reply.Ask.TheVariants.{Shortcodes}
use Rattle.hook_changes.specs.declared.reply.Then.TheVariants as next
use Rattle.hook_machine.specs.declared.run.frames.Pending.TheVariants.{Next}
use Rattle.hook_machine.specs.Rest.{pending_left}
use Rattle.hook_machine.proofs.Steps.{shortcodes_deep}
use Rattle.hook_machine.proofs.Moving.{deep_moves, shortcodes_moves}
use Rattle.hook_machine.proofs.run.asks.ask_shortcodes.Goals as goal

pub returns-in_err-wait-clause-moves : goal.returns-in_err-wait-clause-moves
returns-in_err-wait-clause-moves g c =
    let p = err_from_is_err_and c.from_residual.result c.from_residual.ensures.1 in
    let engine = (engine_over g.S.Stated.says g.S.Stated.number c.args.plugins.now) in
    rw (p.1, p.2) (deep_moves engine (pending_left engine c.args.state.now c.args.invoked.callback c.args.invoked.call (Next (next.Ask (Shortcodes
    c.args.text)))) c.args.state.now.depth
    c.in_err-wait.field-0.0 c.args.stack.now (shortcodes_deep engine c.args.state.now c.args.invoked.callback c.args.invoked.call c.args.text)
    c.in_err-wait.ensures.err _ _)

pub returns-clause-moves : goal.returns-clause-moves
returns-clause-moves g c =
    shortcodes_moves (engine_over g.S.Stated.says g.S.Stated.number c.args.plugins.now) c.args.state.now c.wait.new.state c.args.invoked.callback
    c.args.invoked.call c.args.text c.args.stack.now
    c.wait.new.stack c.in_ok-wait.ensures.within c.in_ok-wait.ensures.deeper c.in_ok-wait.ensures.waits _ _ _ c.begin_text.ensures.moves
