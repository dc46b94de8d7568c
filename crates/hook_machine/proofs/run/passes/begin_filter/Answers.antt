use Rattle.std.proofs.Common.{sym, ◌∙◌}
use Rattle.hook_machine.specs.Outcomes.{engine_over}
use Rattle.hook_machine.proofs.Moving.{filter_moves, filter_back, filter_away}
use Rattle.hook_machine.proofs.run.passes.begin_filter.Goals as goal

-- nothing is registered on the hook
pub returns-then-not-is_hooked-clause-moves : goal.returns-then-not-is_hooked-clause-moves
returns-then-not-is_hooked-clause-moves g c =
    filter_away (engine_over g.S.Stated.says g.S.Stated.number c.args.plugins.now) c.args.state.now c.args.hook c.args.value c.args.args
    c.args.stack.now (rw c.as_str.ensures at (sym c.is_hooked.ensures ∙ c.if-not-is_hooked.true))

pub returns-in-Some-clause-moves : goal.returns-in-Some-clause-moves
returns-in-Some-clause-moves g c =
    filter_moves (engine_over g.S.Stated.says g.S.Stated.number c.args.plugins.now) c.args.state.now c.args.hook c.in-Some.hook c.args.value c.args.args
    c.args.stack.now c.in-Some.ensures.1 c.in-Some.ensures.0 _ _ _ c.begin_pass.ensures.moves

pub returns-in-None-clause-moves : goal.returns-in-None-clause-moves
returns-in-None-clause-moves g c =
    filter_back (engine_over g.S.Stated.says g.S.Stated.number c.args.plugins.now) c.args.state.now c.args.hook c.args.value c.args.args c.args.stack.now
    c.in-None.ensures
