use Rattle.std.proofs.Common.{ap, ◌∙◌, ◌∷◌}
use Rattle.std.proofs.lemmas.Result.{err_from_is_err_and}
use Rattle.hook_machine.specs.Outcomes.{engine_over}
use Rattle.hook_machine.specs.Rest.{rest, rest_with}
use Rattle.hook_machine.specs.Moves.{still_left, made_at, trace_of_turn}
use Rattle.hook_machine.proofs.Going.{leads_here, leads_then, refused_then}
use Rattle.hook_machine.proofs.Moving.{none_next}
use Rattle.hook_machine.proofs.run.jobs.hand_on.Goals as goal

pub returns-in-None-clause-turns : goal.returns-in-None-clause-turns
returns-in-None-clause-turns g c =
    let engine = engine_over g.S.Stated.says g.S.Stated.number c.args.plugins.now in
    leads_then c.frames.invariant (leads_here (ap (λ m. still_left engine m c.frames.state c.frames.stack) c.in-Handed.is
    ∙ none_next engine c.frames.state c.frames.stack c.in-Handed.text c.in-None.ensures.0))

pub returns-in_err-moved-in-Some-clause-turns : goal.returns-in_err-moved-in-Some-clause-turns
returns-in_err-moved-in-Some-clause-turns g c =
    let engine = engine_over g.S.Stated.says g.S.Stated.number c.args.plugins.now in
    let p = err_from_is_err_and c.from_residual.result c.from_residual.ensures.1 in
    rw (p.1, p.2) (refused_then c.args.pace (still_left engine c.args.moved c.args.state.now c.args.stack.now)
    (rest_with engine c.frames.state (c.in-Some.frame ∷ c.take_first.new.self) c.in-Handed.text)
    (λ move. still_left engine move c.result_turn.new.state c.result_turn.new.stack)
    (λ turn. trace_of_turn turn (made_at c.result_turn.new.state c.result_turn.new.stack) (rest engine c.result_turn.new.state c.result_turn.new.stack)) c.in_err-moved-in-Some.field-0.0
    (rw (c.in-Handed.is, c.in-Some.ensures) at c.frames.invariant) c.in_err-moved-in-Some.ensures.moves.leads)

pub frames-preserved : goal.frames-preserved
frames-preserved g c = leads_then (rw (c.in-Handed.is, c.in-Some.ensures) at c.frames.invariant) c.in_ok-moved-in-Some.ensures.moves.leads
