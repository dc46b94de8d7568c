use Rattle.std.proofs.Common.{pos}
use Rattle.command_log.proofs.QuerySteps.{rows_are_lines}
use Rattle.command_log.proofs.States.{on_error}
use Rattle.command_log.proofs.Passing.{none_left, passes, stops}
use Rattle.command_log.proofs.testing.test_more.Goals as goal

pub returns-in_err-test_rows-clause-cause : goal.returns-in_err-test_rows-clause-cause
returns-in_err-test_rows-clause-cause g c clean up tested =
    let old = c.args.conn.now in
    let end = c.read_rows.new.conn in
    let before = c.args.tested.now in
    let rows = c.in_ok-rows.rows.items in
    let gives = c.in_ok-rows.ensures.rows clean in
    let each = rows_are_lines g.S.Store old c.requires before.place (pos 1000) rows gives c.schema-schema.ensures.live in
    let f = c.in_err-test_rows.field-0.0 in
    on_error _ f (stops g.S.Store old c.requires before rows gives end f ((rw c.deref.ensures.value at c.in_err-test_rows.ensures.err) each) tested)
    c.from_residual-in_err-test_rows.result c.from_residual-in_err-test_rows.ensures.1

pub returns-clause-tested : goal.returns-clause-tested
returns-clause-tested g c clean tested =
    passes g.S.Store c.args.conn.now c.requires c.args.tested.now c.in_ok-rows.rows.items (c.in_ok-rows.ensures.rows clean) c.test_rows.new.tested
    (rw c.deref.ensures.value at c.in_ok-test_rows.ensures.ok) tested
