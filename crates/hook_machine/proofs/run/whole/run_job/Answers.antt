use Rattle.std.proofs.Common.{Some, ap}
use Rattle.hook_machine.specs.Outcomes.{engine_over}
use Rattle.hook_meaning.specs.Trace.{outcome_of}
use Rattle.hook_machine.specs.Jobs.{job_left, left_from}
use Rattle.hook_machine.proofs.Outcomes.{ends_alike}
use Rattle.hook_machine.proofs.Moving.{job_alone}
use Rattle.hook_machine.proofs.run.whole.run_job.Goals as goal

pub returns-clause-ends : goal.returns-clause-ends
returns-clause-ends g c =
    ends_alike (left_from (engine_over g.S.Stated.says g.S.Stated.number c.args.plugins.now) c.args.state.now (Some c.args.job) c.args.stack.now)
    (job_left (engine_over g.S.Stated.says g.S.Stated.number c.args.plugins.now) c.args.state.now c.args.job) c.all_turns.result c.all_turns.new.state
    (ap outcome_of (job_alone (engine_over g.S.Stated.says g.S.Stated.number c.args.plugins.now) c.args.state.now c.args.job c.args.stack.now c.requires))
    c.all_turns.ensures.ends
