use Rattle.std.proofs.Common.{refl, subst}
use Rattle.http_streams.specs.Deeds.{rounds_of}
use Rattle.site_http.proofs.Calls.{none_lost_if_ok, rounds_hold}
use Rattle.site_http.proofs.serving.serve_site_frames.Goals as goal

pub returns : goal.returns
returns g c = record {
  ahead = λ settled none sound held may.
      let s = c.serve_frames-served.ensures.served in
      let after = c.serve_frames-served.new.service in
      let holds = rounds_hold g.C.Commands g.J.Journal _ refl refl refl refl _ after (rounds_of s.deeds) held s.served s.stops
      (record { settled = settled; none = none; sound = sound }) (subst (λ x. g.J.Journal.may_hold x held) c.into_journal.ensures may) in (
        s.deeds,
        s.stretch,
        s.rest,
        after.pages,
        s.consumed,
        s.read,
        s.written,
        s.known,
        s.whole,
        s.all_taken,
        s.all,
        holds,
        none_lost_if_ok _ (rounds_of s.deeds) holds.more holds.lost holds.calls s.kept,
      );
  ended = c.serve_frames-served.ensures.ended;
}
