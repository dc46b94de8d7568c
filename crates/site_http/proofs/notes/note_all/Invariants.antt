use Rattle.std.proofs.Common.{◌≡◌, false, map, take}
use Rattle.byte_io.specs.Journal.{Grows, IsQuiet}
use Rattle.site_http.proofs.notes.note_all.Given as goal

-- the lines so far are noted
abbrev pub invariant-loop-line : goal.invariant-loop-line
invariant-loop-line g l =
    let j = g.J.Journal in
    record {
      noted : Grows (j.noted l.fn.journal) (j.noted l.journal) (map (λ v. v.items) (take l.line-index l.lines));
      quiet : IsQuiet j.written j.contents j.is_open j.may_hold l.fn.journal l.journal;
      contents : j.contents l.journal ≡ j.contents l.fn.journal;
      stays : j.is_open l.fn.journal → j.is_open l.journal;
      sound : j.has_failed l.journal ≡ false;
    }
