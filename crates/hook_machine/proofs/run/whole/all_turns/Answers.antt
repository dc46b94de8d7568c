use Rattle.std.proofs.Common.{◌∙◌, Err, arith}
use Rattle.std.proofs.lemmas.Result.{err_from_is_err_and}
use Rattle.hook_machine.specs.declared.run.frames.Pace.TheVariants.{Through}
use Rattle.hook_machine.specs.Outcomes.{engine_over}
use Rattle.hook_machine.specs.Jobs.{left_from}
use Rattle.hook_machine.specs.Rest.{rest}
use Rattle.hook_machine.specs.Moves.{made_at, trace_of_turn}
use Rattle.hook_machine.proofs.Outcomes.{ends_alike}
use Rattle.hook_machine.proofs.Going.{ends_refused, same_end, fewer_turns}
use Rattle.hook_machine.proofs.run.whole.all_turns.Goals as goal

pub returns-in_err-turned-clause-ends : goal.returns-in_err-turned-clause-ends
returns-in_err-turned-clause-ends g c =
    let engine = engine_over g.S.Stated.says g.S.Stated.number c.args.plugins.now in
    let p = err_from_is_err_and c.from_residual.result c.from_residual.ensures.1 in
    rw (p.1, p.2) (ends_refused Through (left_from engine c.args.state.now c.args.job c.args.stack.now)
    (λ turn. trace_of_turn turn (made_at c.next_turn.new.state c.next_turn.new.stack) (rest engine c.next_turn.new.state c.next_turn.new.stack)) c.in_err-turned.field-0.0
    c.in_err-turned.ensures.turns _)

pub turns-init : goal.turns-init
turns-init g c = record { ends = same_end c.in_ok-turned.ensures.turns; over = c.in_ok-turned.ensures.over; cache = c.next_turn.ensures.cache }

pub returns-in_err-turned-in-More-clause-ends : goal.returns-in_err-turned-in-More-clause-ends
returns-in_err-turned-in-More-clause-ends g c =
    let engine = engine_over g.S.Stated.says g.S.Stated.number c.args.plugins.now in
    let p = err_from_is_err_and c.from_residual-in_err-turned-in-More.result c.from_residual-in_err-turned-in-More.ensures.1 in
    rw (p.1, p.2) (ends_alike (rest engine c.turns.state c.turns.stack) (left_from engine c.args.state.now c.args.job c.args.stack.now)
    (Err c.in_err-turned-in-More.field-0.0) c.next_turn-in-More.new.state (rw c.in-More.is at c.turns.invariant.ends)
    (ends_refused Through (rest engine c.turns.state c.turns.stack)
    (λ turn. trace_of_turn turn (made_at c.next_turn-in-More.new.state c.next_turn-in-More.new.stack) (rest engine c.next_turn-in-More.new.state c.next_turn-in-More.new.stack))
    c.in_err-turned-in-More.field-0.0 c.in_err-turned-in-More.ensures.turns _))

pub turns-smaller : goal.turns-smaller
turns-smaller g c = let fewer = fewer_turns c.in_ok-turned-in-More.ensures.turns in rw c.in-More.is (omega (arith, fewer))

pub turns-preserved : goal.turns-preserved
turns-preserved g c = record {
  ends = same_end c.in_ok-turned-in-More.ensures.turns ∙ (rw c.in-More.is at c.turns.invariant.ends);
  over = c.in_ok-turned-in-More.ensures.over;
  cache = c.next_turn-in-More.ensures.cache ∙ c.turns.invariant.cache;
}
