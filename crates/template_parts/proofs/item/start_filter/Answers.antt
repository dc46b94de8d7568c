use Rattle.plain_data.specs.Names.{core_name}
use Rattle.hook_machine.specs.Runs.{world_of, engine_of, left_of}
use Rattle.template_parts.specs.declared.item.Hand.TheVariants.{Printed}
use Rattle.template_parts.proofs.Moving.{busy, filter_begun}
use Rattle.template_parts.proofs.item.start_filter.Goals as goal

pub returns : goal.returns
returns g c =
    let engine = engine_of g.S.Stated.says g.S.Stated.number c.args.run.now in
    let begun =
    filter_begun engine c.args.settings.now (world_of c.args.run.now) (world_of c.start.new.self) c.args.shown (core_name c.args.hook) c.core-hook.result
    c.args.value
    c.args.args (left_of engine c.start.new.self) c.core-hook.ensures c.in_ok-start.ensures.started in
    record {
      begun = (begun, c.in_ok-start.ensures.keeps.sound, busy (Printed c.args.shown));
      memory = tt;
      engine = c.in_ok-start.ensures.keeps.engine;
    }
