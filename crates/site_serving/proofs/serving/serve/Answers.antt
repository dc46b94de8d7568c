use Rattle.std.proofs.Common.{rules, arith, ◌≡◌, ◌<◌, ◌∙◌, [], None, refl, sym, subst, ap, Err, length}
use Rattle.std.proofs.KnownBytes.{Consumes-kept, Consumes-nil, Consumes-trans}
use Rattle.std.proofs.lemmas.Grind.{common_steps}
use Rattle.std.proofs.lemmas.Bool.{eqb-true}
use Rattle.std.proofs.lemmas.Result.{err_from_is_err_and}
use Rattle.site_serving.specs.Lines.{IsLine}
use Rattle.site_serving.specs.Stretches.{Records}
use Rattle.site_serving.proofs.Newlines.{some_of, IsLine-nil}
use Rattle.site_serving.proofs.Stretches.{Fails-after, Fails-from, Halts-from, Handles-from, Records-from, Records-nil, Records-trans}
use Rattle.site_serving.proofs.Endings.{Consumes-none, falls, replies_told, served_to_newline, served_to_last, ServesAll-whole, IsNoted-whole}
use Rattle.site_serving.proofs.Endings.{KeepsAhead-whole, failed_at_last, Stops-failed, KeepsAhead-failed, KeepsAhead-records, Stops-read, Stops-stretch}
use Rattle.site_serving.proofs.Endings.{KeepsAhead-stretch, Halts-after, front-stretch}
use Rattle.site_serving.proofs.serving.serve.Goals as goal
use Rattle.site_serving.proofs.serving.serve.Goals.{then-not-is_empty+in_ok-serve_last, else-not-is_empty}

pub chunks-init : goal.chunks-init
chunks-init g c = record {
  stretch = [];
  read = Consumes-nil _;
  recorded = subst (Records g.W.Journal g.C.Commands.keeps _ _ _ _ _ _ _ _) (sym c.new-held.ensures.items) (Records-nil _ _ _ _ _ _ []);
  line = subst IsLine (sym c.new-held.ensures.items) IsLine-nil;
  room = λ some. omega arith;
  settled = λ start. start;
  reader_sound = c.requires.reader;
  writer_sound = c.requires.writer;
  fixed = refl;
}

pub chunks-preserved : goal.chunks-preserved
chunks-preserved g c =
    let i = c.chunks.invariant in
    let ok = c.in_ok-take_chunk.ensures in
    let records = Records-from g.W.Journal g.C.Commands.keeps g.C.Commands.replies _ _ i.fixed _ _ _ _ _ _ _ _ ok.records in
    record {
      stretch = _;
      read = Consumes-trans _ _ _ _ _ i.read c.in-Ok.ensures.bytes.0;
      recorded = Records-trans _ _ _ _ _ _ _ _ _ _ _ _ _ _ _ _ i.recorded records;
      line = ok.line;
      room = ok.room;
      settled = λ start. ok.settled (λ e. absurd (cc)) (i.settled start);
      reader_sound = search rules;
      writer_sound = search rules;
      fixed = ok.fixed ∙ i.fixed;
    }

pub chunks-smaller : goal.chunks-smaller
chunks-smaller g c =
    let ok = c.in_ok-take_chunk.ensures in
    falls _ _ _ _ _ _ _ _ _ _ _ _ ok.records (grind (arith, common_steps)) c.chunks.invariant.line.short ok.room

-- ---- a read that failed

pub returns-in-Err-clause-stopped : goal.returns-in-Err-clause-stopped
returns-in-Err-clause-stopped g c =
    let i = c.chunks.invariant in
    Stops-read _ _ _ _ _ _ _ _ _ _ _ _ _ i.read c.in-Err.ensures.bytes i.recorded i.line i.room

pub returns-in-Err-clause-ahead : goal.returns-in-Err-clause-ahead
returns-in-Err-clause-ahead g c =
    let i = c.chunks.invariant in
    λ start. KeepsAhead-records _ _ _ _ _ _ _ _ _ _ _ _ _ start (Consumes-kept _ _ _ _ i.read c.in-Err.ensures.bytes) i.recorded

pub returns-in-Err-clause-front : goal.returns-in-Err-clause-front
returns-in-Err-clause-front g c = c.chunks.invariant.recorded.out.front

pub returns-in-Err-clause-settled : goal.returns-in-Err-clause-settled
returns-in-Err-clause-settled g c = λ other start. c.chunks.invariant.settled start

-- ---- a fault at a line that ends in a chunk

pub returns-in_err-take_chunk-clause-stopped : goal.returns-in_err-take_chunk-clause-stopped
returns-in_err-take_chunk-clause-stopped g c =
    let i = c.chunks.invariant in
    let err = c.in_err-take_chunk.ensures in
    let p = err_from_is_err_and c.from_residual.result c.from_residual.ensures.1 in
    let read = Consumes-trans _ _ _ _ _ i.read c.in-Ok.ensures.bytes.0 in
    rw (p.1, p.2) (Stops-stretch _ _ _ _ _ _ _ _ _ _ _ _ read
    (λ is. Fails-after _ _ _ _ _ _ _ _ _ _ _ _ _ _ i.recorded
    (Fails-from g.W.Journal g.C.Commands.keeps g.C.Commands.replies _ _ i.fixed _ _ _ _ _ _ (err.fails (ap Err is))))
    (λ other. Halts-after _ _ _ _ _ _ _ _ _ _ _ _ _ _ _ _ i.recorded
    (Halts-from g.W.Journal g.C.Commands.keeps g.C.Commands.replies _ _ i.fixed _ _ _ _ _ _ _ _ (err.halts other))))

pub returns-in_err-take_chunk-clause-ahead : goal.returns-in_err-take_chunk-clause-ahead
returns-in_err-take_chunk-clause-ahead g c =
    let i = c.chunks.invariant in
    let err = c.in_err-take_chunk.ensures in
    let read = Consumes-trans _ _ _ _ _ i.read c.in-Ok.ensures.bytes.0 in
    λ start. KeepsAhead-stretch _ _ _ _ _ _ _ _ _ _ _ _ start read
    (λ is. Fails-after _ _ _ _ _ _ _ _ _ _ _ _ _ _ i.recorded
    (Fails-from g.W.Journal g.C.Commands.keeps g.C.Commands.replies _ _ i.fixed _ _ _ _ _ _ (err.fails (ap Err is))))
    (λ other. Halts-after _ _ _ _ _ _ _ _ _ _ _ _ _ _ _ _ i.recorded
    (Halts-from g.W.Journal g.C.Commands.keeps g.C.Commands.replies _ _ i.fixed _ _ _ _ _ _ _ _ (err.halts other)))

pub returns-in_err-take_chunk-clause-front : goal.returns-in_err-take_chunk-clause-front
returns-in_err-take_chunk-clause-front g c =
    let i = c.chunks.invariant in
    let err = c.in_err-take_chunk.ensures in
    front-stretch _ _ _ _ _ _ _ _ _ _
    (λ is. Fails-after _ _ _ _ _ _ _ _ _ _ _ _ _ _ i.recorded
    (Fails-from g.W.Journal g.C.Commands.keeps g.C.Commands.replies _ _ i.fixed _ _ _ _ _ _ (err.fails (ap Err is))))
    (λ other. Halts-after _ _ _ _ _ _ _ _ _ _ _ _ _ _ _ _ i.recorded
    (Halts-from g.W.Journal g.C.Commands.keeps g.C.Commands.replies _ _ i.fixed _ _ _ _ _ _ _ _ (err.halts other)))

pub returns-in_err-take_chunk-clause-settled : goal.returns-in_err-take_chunk-clause-settled
returns-in_err-take_chunk-clause-settled g c =
    let err = c.in_err-take_chunk.ensures in
    let p = err_from_is_err_and c.from_residual.result c.from_residual.ensures.1 in
    rw (p.1, p.2) (λ other start. err.settled other (c.chunks.invariant.settled start))

-- ---- the last line failed

pub returns-in_err-serve_last-clause-stopped : goal.returns-in_err-serve_last-clause-stopped
returns-in_err-serve_last-clause-stopped g c =
    let i = c.chunks.invariant in
    let err = c.in_err-serve_last.ensures in
    let p = err_from_is_err_and c.from_residual-in_err-serve_last.result c.from_residual-in_err-serve_last.ensures.1 in
    let read = Consumes-none _ _ _ _ _ _ i.read c.in-Ok.ensures.bytes.0 c.if-count-eq0.true in
    let end = c.in-Ok.ensures.bytes.1 c.if-count-eq0.true (omega arith) in
    let same = c.chunks.held.ok.0 in
    let counted = some_of _ (sym c.is_empty.ensures ∙ c.if-not-is_empty.true) in
    let some : 0 < length c.chunks.held.items = omega (arith, same, counted) in
    let handled = Handles-from g.W.Journal g.C.Commands.keeps g.C.Commands.replies _ _ i.fixed _ _ _ _ _ _ err.handled in
    let failed = failed_at_last _ _ _ _ _ _ _ _ _ _ _ _ _ _ _ _ read end i.recorded i.line c.deref.ensures.value some (i.room some) handled in
    rw (p.1, p.2, err.fault) (Stops-failed _ _ _ _ _ _ None _ _ failed)

pub returns-in_err-serve_last-clause-ahead : goal.returns-in_err-serve_last-clause-ahead
returns-in_err-serve_last-clause-ahead g c =
    let i = c.chunks.invariant in
    let err = c.in_err-serve_last.ensures in
    let read = Consumes-none _ _ _ _ _ _ i.read c.in-Ok.ensures.bytes.0 c.if-count-eq0.true in
    let end = c.in-Ok.ensures.bytes.1 c.if-count-eq0.true (omega arith) in
    let same = c.chunks.held.ok.0 in
    let counted = some_of _ (sym c.is_empty.ensures ∙ c.if-not-is_empty.true) in
    let some : 0 < length c.chunks.held.items = omega (arith, same, counted) in
    let handled = Handles-from g.W.Journal g.C.Commands.keeps g.C.Commands.replies _ _ i.fixed _ _ _ _ _ _ err.handled in
    let failed = failed_at_last _ _ _ _ _ _ _ _ _ _ _ _ _ _ _ _ read end i.recorded i.line c.deref.ensures.value some (i.room some) handled in
    λ start. KeepsAhead-failed _ _ _ _ _ _ _ _ start failed

pub returns-in_err-serve_last-clause-front : goal.returns-in_err-serve_last-clause-front
returns-in_err-serve_last-clause-front g c =
    let i = c.chunks.invariant in
    let err = c.in_err-serve_last.ensures in
    let read = Consumes-none _ _ _ _ _ _ i.read c.in-Ok.ensures.bytes.0 c.if-count-eq0.true in
    let end = c.in-Ok.ensures.bytes.1 c.if-count-eq0.true (omega arith) in
    let same = c.chunks.held.ok.0 in
    let counted = some_of _ (sym c.is_empty.ensures ∙ c.if-not-is_empty.true) in
    let some : 0 < length c.chunks.held.items = omega (arith, same, counted) in
    let handled = Handles-from g.W.Journal g.C.Commands.keeps g.C.Commands.replies _ _ i.fixed _ _ _ _ _ _ err.handled in
    let failed = failed_at_last _ _ _ _ _ _ _ _ _ _ _ _ _ _ _ _ read end i.recorded i.line c.deref.ensures.value some (i.room some) handled in
    failed.out.front

pub returns-in_err-serve_last-clause-settled : goal.returns-in_err-serve_last-clause-settled
returns-in_err-serve_last-clause-settled g c =
    let p = err_from_is_err_and c.from_residual-in_err-serve_last.result c.from_residual-in_err-serve_last.ensures.1 in
    rw (p.1, p.2) (λ other. absurd (other (ap Err c.in_err-serve_last.ensures.fault)))

-- ---- the input was read to its end

pub returns-clause-kept : goal.returns-clause-kept
returns-clause-kept g c =
    let i = c.chunks.invariant in
    let read = Consumes-none _ _ _ _ _ _ i.read c.in-Ok.ensures.bytes.0 c.if-count-eq0.true in
    let end = c.in-Ok.ensures.bytes.1 c.if-count-eq0.true (omega arith) in
    let same = c.chunks.held.ok.0 in
    elim c.if-not-is_empty.branch [
      | then-not-is_empty+in_ok-serve_last w ↦
          let counted = some_of _ (sym c.is_empty.ensures ∙ w.if-not-is_empty.true) in
          let some : 0 < length c.chunks.held.items = omega (arith, same, counted) in
          let handled = Handles-from g.W.Journal g.C.Commands.keeps g.C.Commands.replies _ _ i.fixed _ _ _ _ _ _ w.in_ok-serve_last.ensures.handled in
          let served = served_to_last _ _ _ _ _ _ _ _ _ _ _ _ _ _ _ _ read end i.recorded i.line w.deref.ensures.value some (i.room some) handled in
          rw (w.writer-is, w.commands-is) (IsNoted-whole _ _ _ _ _ _ _ _ served)
      | else-not-is_empty w ↦
          let counted = eqb-true _ _ (sym c.is_empty.ensures ∙ w.if-not-is_empty.false) in
          let none : length c.chunks.held.items ≡ 0 = omega (arith, same, counted) in
          let served = served_to_newline _ _ _ _ _ _ _ _ _ _ _ _ read end i.recorded none in
          rw (w.writer-is, w.commands-is) (IsNoted-whole _ _ _ _ _ _ _ _ served)
    ]

pub returns-clause-front : goal.returns-clause-front
returns-clause-front g c =
    let i = c.chunks.invariant in
    let read = Consumes-none _ _ _ _ _ _ i.read c.in-Ok.ensures.bytes.0 c.if-count-eq0.true in
    let end = c.in-Ok.ensures.bytes.1 c.if-count-eq0.true (omega arith) in
    let same = c.chunks.held.ok.0 in
    elim c.if-not-is_empty.branch [
      | then-not-is_empty+in_ok-serve_last w ↦
          let counted = some_of _ (sym c.is_empty.ensures ∙ w.if-not-is_empty.true) in
          let some : 0 < length c.chunks.held.items = omega (arith, same, counted) in
          let handled = Handles-from g.W.Journal g.C.Commands.keeps g.C.Commands.replies _ _ i.fixed _ _ _ _ _ _ w.in_ok-serve_last.ensures.handled in
          let served = served_to_last _ _ _ _ _ _ _ _ _ _ _ _ _ _ _ _ read end i.recorded i.line w.deref.ensures.value some (i.room some) handled in
          rw w.writer-is served.out.front
      | else-not-is_empty w ↦
          let counted = eqb-true _ _ (sym c.is_empty.ensures ∙ w.if-not-is_empty.false) in
          let none : length c.chunks.held.items ≡ 0 = omega (arith, same, counted) in
          let served = served_to_newline _ _ _ _ _ _ _ _ _ _ _ _ read end i.recorded none in
          rw w.writer-is served.out.front
    ]

pub returns-clause-ahead : goal.returns-clause-ahead
returns-clause-ahead g c =
    let i = c.chunks.invariant in
    let read = Consumes-none _ _ _ _ _ _ i.read c.in-Ok.ensures.bytes.0 c.if-count-eq0.true in
    let end = c.in-Ok.ensures.bytes.1 c.if-count-eq0.true (omega arith) in
    let same = c.chunks.held.ok.0 in
    elim c.if-not-is_empty.branch [
      | then-not-is_empty+in_ok-serve_last w ↦
          let counted = some_of _ (sym c.is_empty.ensures ∙ w.if-not-is_empty.true) in
          let some : 0 < length c.chunks.held.items = omega (arith, same, counted) in
          let handled = Handles-from g.W.Journal g.C.Commands.keeps g.C.Commands.replies _ _ i.fixed _ _ _ _ _ _ w.in_ok-serve_last.ensures.handled in
          let served = served_to_last _ _ _ _ _ _ _ _ _ _ _ _ _ _ _ _ read end i.recorded i.line w.deref.ensures.value some (i.room some) handled in
          λ start. rw (w.writer-is, w.commands-is) (KeepsAhead-whole _ _ _ _ _ _ _ _ start served)
      | else-not-is_empty w ↦
          let counted = eqb-true _ _ (sym c.is_empty.ensures ∙ w.if-not-is_empty.false) in
          let none : length c.chunks.held.items ≡ 0 = omega (arith, same, counted) in
          let served = served_to_newline _ _ _ _ _ _ _ _ _ _ _ _ read end i.recorded none in
          λ start. rw (w.writer-is, w.commands-is) (KeepsAhead-whole _ _ _ _ _ _ _ _ start served)
    ]

pub returns-clause-ok : goal.returns-clause-ok
returns-clause-ok g c =
    let i = c.chunks.invariant in
    let read = Consumes-none _ _ _ _ _ _ i.read c.in-Ok.ensures.bytes.0 c.if-count-eq0.true in
    let end = c.in-Ok.ensures.bytes.1 c.if-count-eq0.true (omega arith) in
    let same = c.chunks.held.ok.0 in
    elim c.if-not-is_empty.branch [
      | then-not-is_empty+in_ok-serve_last w ↦
          let counted = some_of _ (sym c.is_empty.ensures ∙ w.if-not-is_empty.true) in
          let some : 0 < length c.chunks.held.items = omega (arith, same, counted) in
          let handled = Handles-from g.W.Journal g.C.Commands.keeps g.C.Commands.replies _ _ i.fixed _ _ _ _ _ _ w.in_ok-serve_last.ensures.handled in
          let served = served_to_last _ _ _ _ _ _ _ _ _ _ _ _ _ _ _ _ read end i.recorded i.line w.deref.ensures.value some (i.room some) handled in
          rw (w.writer-is, w.commands-is) (ServesAll-whole _ _ _ _ _ _ _ _ _ end served)
      | else-not-is_empty w ↦
          let counted = eqb-true _ _ (sym c.is_empty.ensures ∙ w.if-not-is_empty.false) in
          let none : length c.chunks.held.items ≡ 0 = omega (arith, same, counted) in
          let served = served_to_newline _ _ _ _ _ _ _ _ _ _ _ _ read end i.recorded none in
          rw (w.writer-is, w.commands-is) (ServesAll-whole _ _ _ _ _ _ _ _ _ end served)
    ]

pub returns-clause-replied : goal.returns-clause-replied
returns-clause-replied g c = replies_told _ _ _ _ _ _ _ (returns-clause-ok g c)

pub returns-clause-settled : goal.returns-clause-settled
returns-clause-settled g c =
    let i = c.chunks.invariant in
    elim c.if-not-is_empty.branch [
      | then-not-is_empty+in_ok-serve_last w ↦ λ other start. rw w.writer-is (w.in_ok-serve_last.ensures.settled (i.settled start).opened)
      | else-not-is_empty w ↦ λ other start. rw w.writer-is (i.settled start)
    ]
