use Rattle.std.proofs.Common.{◌∙◌, ◌∷◌, [], refl, sym, subst}
use Rattle.byte_io.specs.Journal.{Grows}
use Rattle.site_serving.proofs.Journals.{Grows-nil, Grows-trans}
use Rattle.site_http.proofs.Following.{IsQuiet-same, IsQuiet-then, items_more}
use Rattle.site_http.proofs.notes.note_all.Goals as goal

pub loop-line-init : goal.loop-line-init
loop-line-init g c = record {
  noted = Grows-nil (g.J.Journal.noted c.args.journal.now);
  quiet = IsQuiet-same _ _ _ _ c.args.journal.now;
  contents = refl;
  stays = λ up. up;
  sound = c.requires;
}

pub loop-line-preserved : goal.loop-line-preserved
loop-line-preserved g c =
    let before = c.loop-line.invariant in
    let one = c.note.ensures in
    let more = items_more c.args.lines.now c.loop-line.line-index c.line-item.result c.loop-line-test.true c.line-item.is in
    let noted = g.J.Journal.noted in
    let this = subst (λ l. Grows (noted c.loop-line.journal) (noted c.note.new.self) (l ∷ [])) c.deref.ensures.value c.in_ok-note.ensures.ok in
    record {
      noted = subst (Grows (noted c.args.journal.now) (noted c.note.new.self)) (sym more) (Grows-trans _ _ _ _ _ before.noted this);
      quiet = IsQuiet-then _ _ _ _ c.args.journal.now c.loop-line.journal c.note.new.self before.quiet one.quiet;
      contents = one.contents ∙ before.contents;
      stays = λ up. one.stays (before.stays up);
      sound = c.in_ok-note.ensures.fault;
    }

pub returns-in_err-note-clause-quiet : goal.returns-in_err-note-clause-quiet
returns-in_err-note-clause-quiet g c =
    IsQuiet-then _ _ _ _ c.args.journal.now c.loop-line.journal c.note.new.self c.loop-line.invariant.quiet c.note.ensures.quiet
