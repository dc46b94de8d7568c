use Rattle.std.proofs.Common.{◌≡◌, ◌-◌, length}
use Rattle.sqlite_wal.specs.Reads.{IsClean, OnlyReads}
use Rattle.log_tails.specs.Rows.{last_under}
use Rattle.log_tails.proofs.rows.last_below_root.Given as goal

abbrev pub invariant-loop : goal.invariant-loop
invariant-loop g l = record {
  same : OnlyReads g.D.Disk l.fn.db l.db;
  under : IsClean g.D.Disk l.db
      → last_under (20 - l.counter) (length l.fn.page) (g.D.Disk.seen l.fn.db) l.number ≡ last_under 20 (length l.fn.page) (g.D.Disk.seen l.fn.db) 2;
}
