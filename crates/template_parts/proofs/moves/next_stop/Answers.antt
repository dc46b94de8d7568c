use Rattle.std.proofs.Common.{◌∙◌, Err, subst}
use Rattle.hook_meaning.specs.Meaning.{Engine}
use Rattle.std.proofs.lemmas.Result.{err_from_is_err_and}
use Rattle.hook_machine.specs.Runs.{engine_of, last_event}
use Rattle.hook_machine.proofs.Going.{leads_then, refused_then}
use Rattle.template_parts.specs.Left.{run_left, Moves, work_of_move, work_of_stop}
use Rattle.template_parts.proofs.moves.next_stop.Goals as goal

pub moves-init : goal.moves-init
moves-init g c = record {
  leads = c.in_ok-moved.ensures.moves;
  over = c.in_ok-moved.ensures.over;
  idle = c.in_ok-moved.ensures.idle;
  sound = c.in_ok-moved.ensures.sound;
  engine = c.one_move.ensures.engine;
  cache = c.one_move.ensures.cache;
}

pub moves-preserved : goal.moves-preserved
moves-preserved g c = record {
  leads = leads_then (rw c.in-None.is at c.moves.invariant.leads) (rw c.moves.invariant.engine at c.in_ok-moved-in-None.ensures.moves);
  over = c.in_ok-moved-in-None.ensures.over;
  idle = c.in_ok-moved-in-None.ensures.idle;
  sound = c.in_ok-moved-in-None.ensures.sound;
  engine = c.one_move-in-None.ensures.engine ∙ c.moves.invariant.engine;
  cache = c.one_move-in-None.ensures.cache ∙ c.moves.invariant.cache;
}

pub returns-in_err-moved-in-None-clause-stops : goal.returns-in_err-moved-in-None-clause-stops
returns-in_err-moved-in-None-clause-stops g c =
    let engine = engine_of g.S.Stated.says g.S.Stated.number c.args.run.now in
    let settings = c.args.settings.now in
    let posts = c.args.posts.now in
    let now = c.one_move-in-None.new in
    let p = err_from_is_err_and c.from_residual-in_err-moved-in-None.result c.from_residual-in_err-moved-in-None.ensures.1 in
    rw (p.1, p.2) (refused_then c.args.pace (run_left engine settings posts c.args.run.now c.args.ahead.now)
    (run_left engine settings posts c.moves.run c.moves.ahead)
    (λ move. work_of_move move (last_event now.run) (run_left engine settings posts now.run now.ahead))
    (λ stop. work_of_stop stop (last_event now.run) (run_left engine settings posts now.run now.ahead)) c.in_err-moved-in-None.field-0.0
    (rw c.in-None.is at c.moves.invariant.leads)
    (subst (λ (e : Engine). Moves c.args.pace (run_left e settings posts c.moves.run c.moves.ahead) (Err c.in_err-moved-in-None.field-0.0) (last_event now.run)
    (run_left e settings posts now.run now.ahead)) c.moves.invariant.engine c.in_err-moved-in-None.ensures.moves))
