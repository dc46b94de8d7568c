use Rattle.std.proofs.Common.{◌≡◌, ℕ, List, [], ◌++◌}
use Rattle.std.specs.Io.KnownBytes.{Appends, Consumes}
use Rattle.http_server.specs.Connection.{config_of, history}
use Rattle.http_streams.proofs.Round.{IsCommitted}
use Rattle.http_streams.proofs.rounds.serve_rounds.Given as goal

abbrev pub invariant-loop : goal.invariant-loop
invariant-loop g l =
    let old = history l.fn.connection in
    let new = history l.connection in
    ((more : List ℕ) × Consumes (g.R.Read.remaining l.fn.reader) (g.R.Read.remaining l.reader) more
    × (new.received ≡ old.received ++ more))
    × ((more : List ℕ) × Appends (g.W.Write.contents l.fn.writer) (g.W.Write.contents l.writer) more
    × (new.sent ≡ old.sent ++ more))
    × (old.calls ≡ [] → IsCommitted g.S.Service.answers g.S.Commits.settles l.fn.service l.service l.connection)
    × (config_of l.connection ≡ config_of l.fn.connection)
    × g.S.Commits.is_sound l.service
