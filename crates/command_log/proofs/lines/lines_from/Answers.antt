use Rattle.command_log.proofs.States.{on_error}
use Rattle.command_log.proofs.Reading.{line_at, no_text}
use Rattle.command_log.proofs.lines.lines_from.Goals as goal

pub returns-in_err-text_of-clause-err : goal.returns-in_err-text_of-clause-err
returns-in_err-text_of-clause-err c all =
    let rows = c.args.rows.now in
    let i = c.loop-row.row-index in
    let row = c.row-item.result in
    let line = line_at rows i row c.loop-row-test.true c.row-item.is all in
    on_error _ c.in_err-text_of.field-0.0
    (no_text rows i row c.loop-row-test.true c.row-item.is c.in_err-text_of.field-0.0 (c.in_err-text_of.ensures.err line))
    c.from_residual-in_err-text_of.result c.from_residual-in_err-text_of.ensures.1
