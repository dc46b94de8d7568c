use Rattle.std.proofs.Common.{[], ◌∙◌}
use Rattle.hook_machine.specs.Runs.{world_of, engine_of, left_of}
use Rattle.template_parts.specs.declared.item.Hand.TheVariants.{Dropped}
use Rattle.template_parts.proofs.Moving.{busy, action_alone, action_begun}
use Rattle.template_parts.proofs.item.start_action.Goals as goal

-- nothing is registered on it
pub returns-in-None : goal.returns-in-None
returns-in-None g c =
    let engine = engine_of g.S.Stated.says g.S.Stated.number c.args.run.now in
    let passed = c.in_ok-pass_over_action.ensures in
    let acted_is = rw c.in-None.is at (passed.passed c.requires.0) in
    record {
      begun = (
        action_alone engine c.args.settings.now (world_of c.args.run.now) (world_of c.pass_over_action.new.self) c.args.hook (acted_is []),
        passed.keeps.sound,
        λ _. passed.idle,
      );
      memory = tt;
      engine = passed.keeps.engine;
    }

pub returns-in_ok-start-in-Some : goal.returns-in_ok-start-in-Some
returns-in_ok-start-in-Some g c =
    let engine = engine_of g.S.Stated.says g.S.Stated.number c.args.run.now in
    let passed = c.in_ok-pass_over_action.ensures in
    let same = rw c.in-Some.is at (passed.passed c.requires.0) in
    let started = rw (passed.keeps.engine, same.1) at c.in_ok-start-in-Some.ensures.started in
    let begun =
    action_begun engine c.args.settings.now (world_of c.args.run.now) (world_of c.start.new.self) c.args.hook c.in-Some.hook c.empty-args.result
    (left_of engine c.start.new.self) same.0 c.empty-args.ensures started in
    record {
      begun = (begun, c.in_ok-start-in-Some.ensures.keeps.sound, busy Dropped);
      memory = tt;
      engine = c.in_ok-start-in-Some.ensures.keeps.engine ∙ passed.keeps.engine;
    }
