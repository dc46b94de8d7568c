use Rattle.std.proofs.Common.{◌≡◌, false, []}
use Rattle.http_streams.proofs.Streams.{IsServing}
use Rattle.http_streams.proofs.serving.serve_frames.Given as goal

abbrev pub invariant-loop : goal.invariant-loop
invariant-loop g l = record {
  serving : IsServing g.S.Service.answers g.S.Commits.settles l.fn.config l.fn.service (g.R.Read.remaining l.fn.reader) (g.W.Sink.contents l.fn.writer)
      l.table l.service (g.R.Read.remaining l.reader) (g.W.Sink.contents l.writer) l.held.items;
  out : l.out.items ≡ [];
  sound : g.S.Commits.is_sound l.service;
  writes : g.W.Sink.has_failed l.writer ≡ false;
}
