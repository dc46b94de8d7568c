use Rattle.std.specs.Prelude.{◌≡◌, ◌||◌, ◌==◌, length}
use Rattle.http_server.specs.Connection.{history}
use Rattle.http_streams.proofs.Parts.{IsGoing}
use Rattle.http_streams.proofs.part.serve_part.Given as goal

abbrev pub invariant-loop : goal.invariant-loop
invariant-loop g l = record {
  going : IsGoing g.S.Service.answers g.S.Commits.settles l.frame.connection l.frame.bytes.now l.fn.connection l.fn.service l.fn.out.items l.connection l.service
      l.out.items l.rest;
  ended : (history l.connection).ended ≡ ((history l.fn.connection).ended || length l.frame.bytes.now == 0);
  sound : g.S.Commits.is_sound l.service;
}
