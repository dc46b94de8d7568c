use Rattle.hook_machine.specs.Runs.{engine_of, last_event, left_of}
use Rattle.hook_machine.proofs.Going.{by_turns}
use Rattle.hook_machine.proofs.run.Run.turn.Goals as goal

pub returns-clause-turns : goal.returns-clause-turns
returns-clause-turns g c =
    let engine = engine_of g.S.Stated.says g.S.Stated.number c.args.self.now in
    λ sound. by_turns (left_of engine c.args.self.now) c.go_on.result (last_event c.go_on.new.self) (left_of engine c.go_on.new.self)
    (c.go_on.ensures.turns sound)
