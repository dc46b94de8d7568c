use Rattle.site_serving.proofs.Settling.{chunk_fails, chunk_halts, chunk_records, chunk_settled}
use Rattle.site_serving.proofs.serving.take_chunk.Goals as goal

pub returns-clause-records : goal.returns-clause-records
returns-clause-records g c =
    let e = c.take_lines-taken.ensures in
    let s = c.settled.ensures in
    chunk_records g.W.Journal _ _ _ _ _ _ _ _ c.args.writer.now c.take_lines-taken.new.writer c.settled.new.writer _ _ s.result e.records s.out s.contents
    s.noted s.settled

pub returns-clause-fails : goal.returns-clause-fails
returns-clause-fails g c =
    let e = c.take_lines-taken.ensures in
    let s = c.settled.ensures in
    λ is. chunk_fails g.W.Journal _ _ _ _ _ _ _ _ c.args.writer.now c.take_lines-taken.new.writer c.settled.new.writer _ e.records e.fails e.halts s.same
    c.if-left-before.false s.out s.contents

pub returns-clause-halts : goal.returns-clause-halts
returns-clause-halts g c =
    let e = c.take_lines-taken.ensures in
    let s = c.settled.ensures in
    chunk_halts g.W.Journal _ _ _ _ _ _ _ c.args.writer.now c.take_lines-taken.new.writer c.settled.new.writer _ _ s.result e.halts s.out s.contents
    s.noted s.settled

pub returns-clause-settled : goal.returns-clause-settled
returns-clause-settled g c =
    let e = c.take_lines-taken.ensures in
    let s = c.settled.ensures in
    chunk_settled g.W.Journal _ _ _ _ _ _ _ _ c.args.writer.now c.take_lines-taken.new.writer c.settled.new.writer _ _ s.result e.records e.halts
    s.settled
