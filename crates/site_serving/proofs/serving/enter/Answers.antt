use Rattle.site_serving.proofs.Journals.{Enters-noted, Enters-taken}
use Rattle.site_serving.proofs.serving.enter.Goals as goal
use Rattle.site_serving.proofs.serving.enter.Goals.{then-replied+in_ok-note, else-replied}

-- the line was noted first if it is one of the history
pub returns-clause-entered : goal.returns-clause-entered
returns-clause-entered g c =
    let t = c.take.ensures in
    elim c.if-replied.branch [
      | then-replied+in_ok-note w ↦
          let n = w.in_ok-note.ensures in
          rw w.if-replied.true (Enters-noted g.W.Journal _ _ _ c.if-replied.writer _ _ w.writer-is n.ok n.quiet n.contents n.stays t.out t.noted t.stays)
      | else-replied w ↦ rw w.if-replied.false (Enters-taken g.W.Journal _ c.if-replied.writer _ _ w.writer-is t.out t.noted t.stays)
    ]
