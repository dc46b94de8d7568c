use Rattle.std.proofs.Common.{◌≡◌, ◌≤◌}
use Rattle.sqlite_wal.specs.Reads.{IsClean, OnlyReads}
use Rattle.log_tails.specs.Tails.{commits_in}
use Rattle.log_tails.proofs.tail.commits_of.Given as goal

abbrev pub invariant-loop-i : goal.invariant-loop-i
invariant-loop-i g l =
    (IsClean g.D.Disk l.log → l.count ≡ commits_in l.page_size (g.D.Disk.seen l.fn.log) l.i)
    × OnlyReads g.D.Disk l.fn.log l.log × (l.count ≤ l.i)
