use Rattle.std.proofs.Common.{◌≡◌, ◌++◌, ℕ, List, flat_map, length}
use Rattle.http_server.specs.Connection.{config_of, history}
use Rattle.http_streams.specs.Deeds.{pieces_bytes}
use Rattle.http_streams.proofs.part.drain.Given as goal

-- some pieces are appended
abbrev pub invariant-loop-connection : goal.invariant-loop-connection
invariant-loop-connection l =
    let old = history l.fn.connection in
    let new = history l.connection in
    record {
      pieces : List (List ℕ);
      sent : new.sent ≡ old.sent ++ flat_map (λ piece. piece) pieces;
      output : l.out.items ≡ l.fn.out.items ++ pieces_bytes l.number pieces;
      received : new.received ≡ old.received;
      ended : new.ended ≡ old.ended;
      calls : new.calls ≡ old.calls;
      config : config_of l.connection ≡ config_of l.fn.connection;
    }

abbrev pub decreases-loop-connection : goal.decreases-loop-connection
decreases-loop-connection l = length (history l.connection).pending
