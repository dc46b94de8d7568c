use Rattle.std.proofs.Common.{◌≡◌, ℕ, List, ◌++◌, length}
use Rattle.std.specs.Io.KnownBytes.{Appends}
use Rattle.page_trace.proofs.log.write_all.Given as goal

-- what was taken and what is left are all the bytes
abbrev pub invariant-loop-rest : goal.invariant-loop-rest
invariant-loop-rest g l =
    let contents = g.W.Sink.contents in
    record {
      taken : List ℕ;
      whole : taken ++ l.rest ≡ l.fn.bytes;
      appends : Appends (contents l.fn.sink) (contents l.sink) taken;
    }

abbrev pub decreases-loop-rest : goal.decreases-loop-rest
decreases-loop-rest g l = length l.rest
