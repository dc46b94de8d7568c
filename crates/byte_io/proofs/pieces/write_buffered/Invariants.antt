use Rattle.std.proofs.Common.{◌≡◌, ℕ, List, ◌++◌, false, take, flat_map}
use Rattle.std.specs.Io.KnownBytes.{Appends}
use Rattle.byte_io.proofs.pieces.write_buffered.Given as goal

-- of the pieces so far some bytes were written, and the others are gathered
abbrev pub invariant-loop-piece : goal.invariant-loop-piece
invariant-loop-piece g l =
    let contents = g.W.Sink.contents in
    record {
      taken : List ℕ;
      whole : taken ++ l.gathered.items ≡ flat_map (λ piece. piece.now) (take l.piece-index l.pieces);
      appends : Appends (contents l.fn.writer) (contents l.writer) taken;
      sound : g.W.Sink.has_failed l.writer ≡ false;
    }
