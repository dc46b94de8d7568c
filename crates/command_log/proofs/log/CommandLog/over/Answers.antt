use Rattle.std.proofs.Common.{rules, subst}
use Rattle.command_log.specs.Faults.{IsPlain}
use Rattle.command_log.proofs.Passing.{made_rows, over_lines, over_rows}
use Rattle.command_log.proofs.log.CommandLog.over.Goals as goal

pub returns-in-Ok-clause-lines : goal.returns-in-Ok-clause-lines
returns-in-Ok-clause-lines g c =
    let it = c.in-Ok.ensures in
    over_lines g.S.Store c.args.conn c.test_all.new.conn c.requires.idle it.log it.shut it.committed (search rules)

pub returns-in-Ok-clause-rows : goal.returns-in-Ok-clause-rows
returns-in-Ok-clause-rows g c =
    let it = c.in-Ok.ensures in
    over_rows g.S.Store c.args.conn c.test_all.new.conn c.requires.idle it.shut it.committed (search rules)

pub returns-in-Ok-make-clause-rows : goal.returns-in-Ok-make-clause-rows
returns-in-Ok-make-clause-rows g c up = made_rows g.S.Store c.args.conn c.make.new.conn (search rules) (c.in-Ok-make.ensures.empty up)

pub returns-in-Err-clause-other : goal.returns-in-Err-clause-other
returns-in-Err-clause-other g c = (
  λ none. absurd (subst IsPlain none c.in-Err.ensures.fault),
  λ other. absurd (other.0 (search rules)),
)
