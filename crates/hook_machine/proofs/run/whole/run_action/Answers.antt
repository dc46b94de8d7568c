use Rattle.std.proofs.Common.{subst}
use Rattle.hook_machine.specs.Outcomes.{engine_over}
use Rattle.hook_machine.specs.declared.run.jobs.Job.{Job}
use Rattle.hook_machine.specs.Outcomes.{RunsAs}
use Rattle.hook_machine.specs.Jobs.{job_left}
use Rattle.hook_machine.proofs.run.whole.run_action.Goals as goal

pub returns-clause-ends : goal.returns-clause-ends
returns-clause-ends g c =
    subst (λ (j : Job). RunsAs (job_left (engine_over g.S.Stated.says g.S.Stated.number c.args.plugins.now) c.args.state.now j) c.run_job.result
    c.run_job.new.state) c.in_ok-job.ensures c.run_job.ensures.ends
