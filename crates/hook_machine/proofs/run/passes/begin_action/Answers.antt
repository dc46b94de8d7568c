use Rattle.std.proofs.Common.{sym, ◌∙◌}
use Rattle.hook_machine.specs.Outcomes.{engine_over}
use Rattle.hook_machine.proofs.Moving.{action_moves, action_back, action_away}
use Rattle.hook_machine.proofs.run.passes.begin_action.Goals as goal

-- nothing is registered on the hook
pub returns-then-not-is_hooked-clause-moves : goal.returns-then-not-is_hooked-clause-moves
returns-then-not-is_hooked-clause-moves g c =
    action_away (engine_over g.S.Stated.says g.S.Stated.number c.args.plugins.now) c.args.state.now c.fire.new.self c.args.hook c.in-Some.hook
    c.empty-nothing.result c.args.args c.args.stack.now c.in-Some.ensures.1 c.in-Some.ensures.0
    c.in_ok-fire-in-Some.ensures.ok c.empty-nothing.ensures (rw c.as_str.ensures.text at (sym c.is_hooked.ensures ∙ c.if-not-is_hooked.true))

pub returns-else-not-is_hooked-clause-moves : goal.returns-else-not-is_hooked-clause-moves
returns-else-not-is_hooked-clause-moves g c =
    action_moves (engine_over g.S.Stated.says g.S.Stated.number c.args.plugins.now) c.args.state.now c.fire.new.self c.args.hook c.in-Some.hook
    c.empty-nothing.result c.args.args c.args.stack.now c.in-Some.ensures.1 c.in-Some.ensures.0
    c.in_ok-fire-in-Some.ensures.ok c.empty-nothing.ensures _ _ _ c.begin_pass.ensures.moves

pub returns-in-None-clause-moves : goal.returns-in-None-clause-moves
returns-in-None-clause-moves g c =
    action_back (engine_over g.S.Stated.says g.S.Stated.number c.args.plugins.now) c.args.state.now c.args.hook c.empty.result c.args.args
    c.args.stack.now c.in-None.ensures c.empty.ensures
