use Rattle.std.proofs.Common.{◌∙◌, sym}
use Rattle.hook_machine.specs.Runs.{engine_of, world_of}
use Rattle.hook_machine.proofs.Moving.{acted_alone, acted_unnamed}
use Rattle.hook_machine.proofs.run.Run.pass_over_action.Goals.{in-Some-of, in-None}
use Rattle.hook_machine.proofs.run.Run.pass_over_action.Goals as goal

pub returns-in-Ok-clause-passed : goal.returns-in-Ok-clause-passed
returns-in-Ok-clause-passed g c =
    let engine = engine_of g.S.Stated.says g.S.Stated.number c.args.self.now in
    let world = world_of c.args.self.now in
    λ sound args. elim c.match-of.branch [
      | in-Some-of w ↦ rw w.self-is
          (acted_alone engine world w.fire-fired.new.self c.args.hook w.in-Some-of.hook args w.in-Some-of.ensures.1 w.in-Some-of.ensures.0
          (rw (sym w.fired-is ∙ c.in-Ok.is) at w.fire-fired.ensures.ok)
          (rw c.as_str.ensures at (sym c.is_hooked.ensures ∙ c.if-is_hooked.false)))
      | in-None w ↦ rw w.self-is (acted_unnamed engine world c.args.hook args w.in-None.ensures)
    ]
