use Rattle.command_log.proofs.Reaching.{falls_short, reaches_after}
use Rattle.command_log.proofs.log.CommandLog.taken.Goals as goal

pub returns-then-branch-clause-reaches : goal.returns-then-branch-clause-reaches
returns-then-branch-clause-reaches g c =
    let it = c.in_ok-reaches.ensures in
    reaches_after g.S.Store g.met.S.Store.shut_if_dirty c.args.conn c.in-Ok.log c.reaches.new.self c.args.number c.in_ok-reaches.field-0 it.survives it.committed
    it.reaches c.if-branch.true

pub returns-else-branch-clause-older : goal.returns-else-branch-clause-older
returns-else-branch-clause-older g c is =
    let it = c.in_ok-reaches.ensures in
    let was = c.in-Ok.ensures in
    falls_short g.S.Store g.met.S.Store.shut_if_dirty c.args.conn c.in-Ok.log c.reaches.new.self c.args.number c.in_ok-reaches.field-0 it.survives it.committed
    it.reaches c.if-branch.false was.survives was.rows was.stays it.shut it.stays
