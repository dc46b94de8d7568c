use Rattle.std.proofs.Common.{take}
use Rattle.command_log.specs.Testing.{Tests}
use Rattle.command_log.proofs.testing.test_rows.Given as goal

abbrev pub invariant-loop-row : goal.invariant-loop-row
invariant-loop-row l = Tests l.fn.tested (take l.row-index l.rows) l.tested
