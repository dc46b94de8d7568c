use Rattle.std.proofs.Common.{rules, ◌∙◌}
use Rattle.sqlite.specs.Held.{state}
use Rattle.sqlite.proofs.StateLemmas.{survives_then}
use Rattle.command_log.proofs.States.{clean_of}
use Rattle.command_log.proofs.Passing.{sealed_digest, sealed_log, tested_on, none_on}
use Rattle.command_log.proofs.testing.test_all.Goals as goal

pub rows-preserved : goal.rows-preserved
rows-preserved g c =
    let old = c.args.conn.now in
    let mid = c.rows.conn in
    let new = c.test_more.new.conn in
    let was = c.rows.invariant in
    let it = c.in_ok-test_more.ensures in
    record {
      table = it.table;
      shut = λ up. was.shut (it.shut up);
      same = λ up. it.committed up ∙ was.same (it.shut up);
      stays = λ clean up. it.stays clean;
      survives = survives_then (state g.S.Store old) (state g.S.Store mid) (state g.S.Store new) _ _ (λ _. ⊥) (λ _ db none. none) (λ _ db none. none)
          was.survives it.survives;
      tested = λ up. tested_on g.S.Store old mid c.requires was.table was.shut was.same c.rows.tested c.test_more.new.tested (it.shut up)
          (was.tested (it.shut up)) (it.tested (clean_of g.S.Store g.met.S.Store.shut_if_dirty new up));
    }

pub returns-then-not-branch-clause-log : goal.returns-then-not-branch-clause-log
returns-then-not-branch-clause-log g c =
    let old = c.args.conn.now in
    let mid = c.rows.conn in
    let new = c.test_more.new.conn in
    let was = c.rows.invariant in
    let it = c.in_ok-test_more.ensures in
    let law = g.met.S.Store.shut_if_dirty in
    sealed_log g.S.Store old new c.requires it.table (λ up. was.shut (it.shut up)) (λ up. it.committed up ∙ was.same (it.shut up))
    c.test_more.new.tested
    (λ up. tested_on g.S.Store old mid c.requires was.table was.shut was.same c.rows.tested c.test_more.new.tested (it.shut up)
    (was.tested (it.shut up)) (it.tested (clean_of g.S.Store law new up)))
    (λ up. none_on g.S.Store old mid c.requires was.table was.shut was.same c.test_more.new.tested (it.shut up)
    (it.end (clean_of g.S.Store law new up) (search rules)))

pub returns-then-not-branch-clause-digest : goal.returns-then-not-branch-clause-digest
returns-then-not-branch-clause-digest g c =
    let old = c.args.conn.now in
    let mid = c.rows.conn in
    let new = c.test_more.new.conn in
    let was = c.rows.invariant in
    let it = c.in_ok-test_more.ensures in
    let law = g.met.S.Store.shut_if_dirty in
    sealed_digest g.S.Store old new c.requires it.table (λ up. was.shut (it.shut up)) (λ up. it.committed up ∙ was.same (it.shut up))
    c.test_more.new.tested
    (λ up. tested_on g.S.Store old mid c.requires was.table was.shut was.same c.rows.tested c.test_more.new.tested (it.shut up)
    (was.tested (it.shut up)) (it.tested (clean_of g.S.Store law new up)))
    (λ up. none_on g.S.Store old mid c.requires was.table was.shut was.same c.test_more.new.tested (it.shut up)
    (it.end (clean_of g.S.Store law new up) (search rules)))
