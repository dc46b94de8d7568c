use Rattle.std.proofs.Common.{◌∙◌, inl, inr, refl, subst}
use Rattle.site_http.proofs.Calls.{none_lost, rounds_hold}
use Rattle.site_http.proofs.serving.serve_site.Goals as goal

pub returns : goal.returns
returns g c = record {
  ahead = λ settled none sound held may.
      let s = c.serve_http-served.ensures in
      let after = c.serve_http-served.new.service in
      let holds = rounds_hold g.C.Commands g.J.Journal _ refl refl refl refl _ after s.rounds held s.answered s.stops
      (record { settled = settled; none = none; sound = sound }) (subst (λ x. g.J.Journal.may_hold x held) c.into_journal.ensures may) in (
        s.connection,
        after.pages,
        s.served,
        s.read,
        s.written,
        s.ended,
        record {
          told = _;
          more = holds.more;
          lost = holds.lost;
          calls = s.calls ∙ holds.calls;
          cleared = s.cleared;
          told_lines = holds.told_lines;
          more_lines = holds.more_lines;
          lost_lines = holds.lost_lines;
          are_told = holds.are_told;
          are_more = holds.are_more;
          are_lost = holds.are_lost;
          served = holds.served;
          edits = holds.edits;
        },
        elim s.told.kept_or_told [ inl kept ↦ inl (none_lost s.rounds holds.more holds.lost holds.calls kept) | inr told ↦ inr told ],
      );
}
