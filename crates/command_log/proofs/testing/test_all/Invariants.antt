use Rattle.std.proofs.Common.{◌≡◌}
use Rattle.sqlite.specs.Held.{state}
use Rattle.sqlite.specs.State.{HasCleanDisk, Survives}
use Rattle.command_log.specs.Lines.{IsOpen, IsTabled, rows_of}
use Rattle.command_log.specs.Testing.{IsTested}
use Rattle.command_log.proofs.testing.test_all.Given as goal

abbrev pub invariant-rows : goal.invariant-rows
invariant-rows g l = record {
  table : IsTabled g.S.Store l.conn;
  shut : IsOpen g.S.Store l.conn → IsOpen g.S.Store l.fn.conn;
  same : IsOpen g.S.Store l.conn → (state g.S.Store l.conn).committed ≡ (state g.S.Store l.fn.conn).committed;
  stays : HasCleanDisk (state g.S.Store l.conn) → IsOpen g.S.Store l.fn.conn → IsOpen g.S.Store l.conn;
  survives : Survives (state g.S.Store l.fn.conn) (state g.S.Store l.conn) (λ _. ⊥);
  tested : IsOpen g.S.Store l.conn → IsTested (rows_of g.S.Store l.fn.conn) l.tested;
}
