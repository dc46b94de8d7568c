use Rattle.std.proofs.Common.{◌≡◌, ◌++◌, ◌+◌, rules}
use Rattle.sha2.specs.Sha256.{sha256}
use Rattle.command_log.specs.Lines.{sum_in, text_in}
use Rattle.command_log.proofs.Sealing.{tests_next}
use Rattle.command_log.proofs.testing.test_rows.Goals as goal

pub loop-row-preserved : goal.loop-row-preserved
loop-row-preserved c =
    let row = c.row-item.result in
    let mid = c.loop-row.tested in
    let fit : sum_in row ≡ sha256 (mid.digest ++ text_in row) = search rules in
    let next : c.has_digest.new.digest ≡ sha256 (mid.digest ++ text_in row) = search rules in
    let count : c.in-Some.lines ≡ mid.lines + 1 = search rules in
    tests_next c.args.tested.now mid _ c.args.rows.now c.loop-row.row-index row c.loop-row-test.true c.row-item.is c.loop-row.invariant fit next
    (search rules) count
