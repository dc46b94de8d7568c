use Rattle.std.proofs.Common.{◌≡◌, ℕ, List, false, length}
use Rattle.std.specs.Io.KnownBytes.{Appends, append_known}
use Rattle.site_journal.proofs.waiting.flush.Given as goal

-- what was written and what waits are together what they were
abbrev pub invariant-loop-sink : goal.invariant-loop-sink
invariant-loop-sink g l =
    let contents = g.W.Sink.contents in
    record {
      same : append_known (contents l.sink) l.waiting.bytes.items ≡ append_known (contents l.fn.sink) l.fn.waiting.bytes.items;
      grows : (more : List ℕ) × Appends (contents l.fn.sink) (contents l.sink) more;
      sound : g.W.Sink.has_failed l.sink ≡ false;
      kept : l.waiting.failed ≡ l.fn.waiting.failed;
    }

abbrev pub decreases-loop-sink : goal.decreases-loop-sink
decreases-loop-sink g l = length l.waiting.bytes.items
