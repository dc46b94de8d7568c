use Rattle.std.proofs.Common.{[]}
use Rattle.command_log.proofs.Clearing.{clears_log, clear_failed}
use Rattle.command_log.proofs.Texts.{clear_text}
use Rattle.command_log.proofs.Statements.{executed}
use Rattle.command_log.proofs.lines.clear.Goals as goal

pub returns : goal.returns
returns g c =
    let old = c.args.tx.now in
    let new = c.execute.new.self in
    executed g.S.Store old new c.requires c.execute.ensures.same_reference c.execute.ensures.survives clear_text [] c.execute.result c.execute.ensures.runs
    (clears_log g.S.Store old.conn.now new.conn.now c.requires.holds c.execute.result)
    (λ up. clear_failed g.S.Store old.conn.now new.conn.now up (c.requires.holds up) c.execute.result)
