use Rattle.hook_machine.specs.Runs.{engine_of}
use Rattle.hook_machine.proofs.Moving.{passed_over}
use Rattle.hook_machine.proofs.run.Run.pass_over.Goals as goal

pub returns-clause-passed : goal.returns-clause-passed
returns-clause-passed g c =
    let engine = engine_of g.S.Stated.says g.S.Stated.number c.args.self.now in
    let may = c.may_pass_over.ensures c.if-not-may_pass_over.false in
    λ sound passed args. passed_over engine c.args.self.now.state c.spend_call.new.self c.args.hook.now c.args.value.now args (may.1 engine args) may.0
    c.spend_call.ensures
