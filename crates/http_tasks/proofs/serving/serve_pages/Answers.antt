use Rattle.std.proofs.Common.{refl}
use Rattle.http_tasks.proofs.Telling.{settled_so, told_to_many, told_to_none, told_to_one}
use Rattle.http_tasks.proofs.serving.serve_pages.Goals as goal

pub returns-in-Err : goal.returns-in-Err
returns-in-Err g c = record {
  holds = λ settled held may.
      told_to_none g.C.Commands g.J.Journal c.args.site c.args.journal _ _ _ _ _ _ held c.args.clients.framed refl refl refl (settled.committed held may);
}

pub returns-then-framed : goal.returns-then-framed
returns-then-framed g c = record {
  holds = λ settled held may.
      let pages = c.new-pages.result in
      let made = c.new-pages.ensures in
      let at_rest = settled_so g.J.Journal c.args.journal pages.journal made.journal settled in
      let s = c.serve_site_frames-journal.ensures.ahead at_rest made.none made.sound held may in
      let written = g.W.Write.contents c.serve_site_frames-journal.new.writer.writer in
      told_to_many g.C.Commands g.J.Journal c.args.site c.args.journal _ _ _ _ written _ held c.args.clients.framed c.if-framed.true s.0 s.1 s.2 pages
      s.3 made.commands made.journal s.4 s.5 s.6 s.7 s.8 s.9 s.10 s.11 s.12;
}

pub returns-else-framed : goal.returns-else-framed
returns-else-framed g c = record {
  holds = λ settled held may.
      let pages = c.new-pages.result in
      let made = c.new-pages.ensures in
      let at_rest = settled_so g.J.Journal c.args.journal pages.journal made.journal settled in
      let s = c.serve_site-journal.ensures.ahead at_rest made.none made.sound held may in
      told_to_one g.C.Commands g.J.Journal c.args.site c.args.journal _ _ _ _ _ _ held c.args.clients.framed c.if-framed.false s.0 pages s.1 made.commands
      made.journal s.2 s.3 s.4 s.5 s.6 _ s.7;
}
