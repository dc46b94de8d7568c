use Rattle.std.proofs.Common.{Option, Err, sym, subst}
use Rattle.template_parts.specs.declared.item.Hand.{Hand}
use Rattle.template_parts.specs.Left.{Moves, job_or_nothing, then_items, run_left}
use Rattle.hook_machine.specs.Runs.{world_of, last_event, engine_of, left_of}
use Rattle.std.proofs.lemmas.Result.{err_from_is_err_and}
use Rattle.hook_machine.proofs.Going.{leads_here}
use Rattle.template_parts.specs.Places.{items_left}
use Rattle.template_parts.proofs.Moving.{none_move, step_move, refused_move, more_move, done_move}
use Rattle.template_parts.proofs.moves.one_move.Goals as goal

-- nothing is left
pub returns-in-None-take_first-clause-moves : goal.returns-in-None-take_first-clause-moves
returns-in-None-take_first-clause-moves g c =
    let engine = engine_of g.S.Stated.says g.S.Stated.number c.args.run.now in
    leads_here (none_move engine c.args.settings.now c.args.posts.now (world_of c.args.run.now) (left_of engine c.args.run.now) c.args.ahead.now.hand
    c.args.ahead.now.steps c.in-None.is c.in-None-take_first.ensures.0)

-- the next step was begun
pub returns-in_ok-ahead-in-Some-take_first-clause-moves : goal.returns-in_ok-ahead-in-Some-take_first-clause-moves
returns-in_ok-ahead-in-Some-take_first-clause-moves g c =
    let engine = engine_of g.S.Stated.says g.S.Stated.number c.args.run.now in
    let later = c.begin_step.new.run in
    step_move engine c.args.settings.now c.args.posts.now (world_of c.args.run.now) (left_of engine c.args.run.now) c.args.ahead.now.hand
    c.args.ahead.now.steps (world_of later) (left_of engine later) c.in_ok-ahead-in-Some-take_first.field-0 c.in-Some-take_first.step
    c.take_first.new.self c.in-None.is c.in-Some-take_first.ensures c.in_ok-ahead-in-Some-take_first.ensures.begun.0

-- the job under way is refused
pub returns-in_err-go_on-in-Some-clause-moves : goal.returns-in_err-go_on-in-Some-clause-moves
returns-in_err-go_on-in-Some-clause-moves g c =
    let engine = engine_of g.S.Stated.says g.S.Stated.number c.args.run.now in
    let p = err_from_is_err_and c.from_residual.result c.from_residual.ensures.1 in
    let settings = c.args.settings.now in
    let items = items_left settings c.args.posts.now c.args.ahead.now.steps in
    let now = run_left engine settings c.args.posts.now c.go_on.new.self c.args.ahead.now in
    rw (p.1, p.2) (subst (λ (hand : Option Hand). Moves c.args.pace
    (then_items engine settings (job_or_nothing (world_of c.args.run.now) (left_of engine c.args.run.now) hand) items) (Err c.in_err-go_on-in-Some.field-0.0)
    (last_event c.go_on.new.self) now) (sym c.in-Some.is) (refused_move engine settings c.in-Some.hand items (world_of c.args.run.now) c.args.pace
    (left_of engine c.args.run.now) (left_of engine c.go_on.new.self) c.in_err-go_on-in-Some.field-0.0 (last_event c.go_on.new.self) (last_event c.go_on.new.self)
    now
    (c.in_err-go_on-in-Some.ensures.turns c.requires.sound)))

-- it has made an invocation
pub returns-in-More-clause-moves : goal.returns-in-More-clause-moves
returns-in-More-clause-moves g c =
    let engine = engine_of g.S.Stated.says g.S.Stated.number c.args.run.now in
    rw c.in-Some.is (more_move engine c.args.settings.now c.in-Some.hand (items_left c.args.settings.now c.args.posts.now c.args.ahead.now.steps)
    (world_of c.args.run.now) c.args.pace (left_of engine c.args.run.now) (left_of engine c.go_on.new.self) c.in_ok-go_on-in-Some.field-0
    (last_event c.go_on.new.self) (c.in_ok-go_on-in-Some.ensures.turns c.requires.sound) c.in-More.is)

-- it is done, and its result was handed on
pub returns-in_ok-hand_on-in-Done-clause-moves : goal.returns-in_ok-hand_on-in-Done-clause-moves
returns-in_ok-hand_on-in-Done-clause-moves g c =
    let engine = engine_of g.S.Stated.says g.S.Stated.number c.args.run.now in
    rw c.in-Some.is (done_move engine c.args.settings.now c.in-Some.hand (items_left c.args.settings.now c.args.posts.now c.args.ahead.now.steps)
    (world_of c.args.run.now) c.args.pace (left_of engine c.args.run.now) (left_of engine c.go_on.new.self) c.in_ok-go_on-in-Some.field-0 c.in-Done.text
    (last_event c.go_on.new.self) (world_of c.hand_on.new.run) (c.in_ok-go_on-in-Some.ensures.turns c.requires.sound) c.in-Done.is
    c.in_ok-hand_on-in-Done.ensures.done)
