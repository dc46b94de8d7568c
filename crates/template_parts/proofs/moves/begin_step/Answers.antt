use Rattle.std.proofs.Common.{IfOk, subst}
use Rattle.hook_machine.specs.Runs.{world_of, engine_of}
use Rattle.template_parts.specs.Left.{IsBegun}
use Rattle.template_parts.proofs.Moving.{begins_by, hook_step}
use Rattle.template_parts.proofs.moves.begin_step.Goals as goal

pub returns-in-Hook : goal.returns-in-Hook
returns-in-Hook g c =
    let engine = engine_of g.S.Stated.says g.S.Stated.number c.args.run.now in
    let same =
    hook_step engine c.args.settings.now c.args.posts.now (world_of c.args.run.now) c.args.step c.in-Hook.hook c.core.result c.in-Hook.is c.core.ensures in
    let begins = c.start_action.ensures in
    begins_by (record {
      begun = subst (λ work. IfOk c.start_action.result (IsBegun engine work c.start_action.new.run)) same begins.begun;
      memory = begins.memory;
      engine = begins.engine;
    })
