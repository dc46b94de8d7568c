use Rattle.std.proofs.Common.{arith, ◌∙◌, ◌++◌, refl, sym, ap}
use Rattle.std.proofs.lemmas.Grind.{common_steps}
use Rattle.http_streams.proofs.Parts.{on_no_ok}
use Rattle.http_streams.proofs.Streams.{front_all, serving_ends, serving_kept, serving_last, serving_more, serving_none, serving_read, when_err, when_ok}
use Rattle.http_streams.proofs.serving.serve_frames.Goals as goal

pub loop-init : goal.loop-init
loop-init g c = record {
  serving = rw c.new-held.ensures.items (serving_none g.S.Service.answers g.S.Commits.settles c.args.config c.args.service.now
      (g.R.Read.remaining c.args.reader.now) (g.W.Sink.contents c.args.writer.now) c.new-table.result c.new-table.ensures.none c.new-table.ensures.few c.new-table.ensures.last c.new-table.ensures.config);
  out = c.new-out.ensures.items;
  sound = c.requires.sound;
  writes = c.requires.writer;
}

-- there is no room to read into
pub returns-in_err-reserve-clause-served : goal.returns-in_err-reserve-clause-served
returns-in_err-reserve-clause-served g c =
    let failed = c.from_residual.ensures.0 in
    serving_ends _ _ _ _ _ _ _ _ _ _ _ c.from_residual.result c.loop.invariant.serving
    (on_no_ok _ c.from_residual.result failed) (on_no_ok _ c.from_residual.result failed)

-- nothing could be read
pub returns-in_err-read_from-clause-served : goal.returns-in_err-read_from-clause-served
returns-in_err-read_from-clause-served g c =
    let failed = c.from_residual-in_err-read_from.ensures.0 in
    let result = c.from_residual-in_err-read_from.result in
    let kept = c.in_err-read_from.ensures.err in
    serving_ends _ _ _ _ _ _ _ _ _ _ _ result (serving_kept _ _ _ _ _ _ _ _ _ _ _ _ c.loop.held.items c.loop.invariant.serving kept.1 refl)
    (on_no_ok _ result failed) (on_no_ok _ result failed)

-- the end of the stream, between frames
pub returns-then-is_empty-clause-served : goal.returns-then-is_empty-clause-served
returns-then-is_empty-clause-served g c =
    let came = c.in_ok-read_from.ensures.ok in
    let i = serving_read _ _ _ _ _ _ _ _ _ _ _ _ came.0 c.read_from.new.self.items c.loop.invariant.serving came.3 (came.2 ∙ ap (λ l. l ++ came.0) c.reserve.ensures.items) in
    let empty = c.is_empty.ensures in
    let yes = c.if-is_empty.true in
    serving_ends _ _ _ _ _ _ _ _ _ _ _ _ i (grind (arith, common_steps, empty, yes)) i.written

pub returns-then-is_empty-clause-ended : goal.returns-then-is_empty-clause-ended
returns-then-is_empty-clause-ended g c =
    let room = c.in_ok-reserve.ensures.spare in
    let none = c.if-branch-eq0.true in
    c.in_ok-read_from.ensures.end (omega (arith, room)) (grind (arith, common_steps, none))

-- the end of the stream, within a frame
pub returns-then-branch-eq0-clause-served : goal.returns-then-branch-eq0-clause-served
returns-then-branch-eq0-clause-served g c =
    let came = c.in_ok-read_from.ensures.ok in
    let i = serving_read _ _ _ _ _ _ _ _ _ _ _ _ came.0 c.read_from.new.self.items c.loop.invariant.serving came.3 (came.2 ∙ ap (λ l. l ++ came.0) c.reserve.ensures.items) in
    serving_ends _ _ _ _ _ _ _ _ _ _ _ _ i tt tt

pub serve_held-used-requires : goal.serve_held-used-requires
serve_held-used-requires g c = c.loop.invariant.sound

pub write_all-requires : goal.write_all-requires
write_all-requires g c = c.loop.invariant.writes

-- writing failed
pub returns-then-is_err-clause-served : goal.returns-then-is_err-clause-served
returns-then-is_err-clause-served g c =
    let came = c.in_ok-read_from.ensures.ok in
    let i = serving_read _ _ _ _ _ _ _ _ _ _ _ _ came.0 c.read_from.new.self.items c.loop.invariant.serving came.3 (came.2 ∙ ap (λ l. l ++ came.0) c.reserve.ensures.items) in
    let was = rw (c.as_slice.ensures, c.loop.invariant.out) at (c.serve_held-used.ensures.served i.deeds i.table) in
    let failed = sym c.is_err.ensures.value ∙ c.if-is_err.true in
    let wrote = rw c.as_slice-in-loop.ensures.value at (when_err c.write_all.result failed c.write_all.ensures.part) in
    serving_last _ _ _ _ _ _ _ _ _ _ _ _ _ _ _ i was _ _ refl wrote

-- nothing more can be served
pub returns-in_err-used-clause-served : goal.returns-in_err-used-clause-served
returns-in_err-used-clause-served g c =
    let came = c.in_ok-read_from.ensures.ok in
    let i = serving_read _ _ _ _ _ _ _ _ _ _ _ _ came.0 c.read_from.new.self.items c.loop.invariant.serving came.3 (came.2 ∙ ap (λ l. l ++ came.0) c.reserve.ensures.items) in
    let was = rw (c.as_slice.ensures, c.loop.invariant.out) at (c.serve_held-used.ensures.served i.deeds i.table) in
    let well = sym c.is_err.ensures.value ∙ c.if-is_err.false in
    let wrote = rw c.as_slice-in-loop.ensures.value at (when_ok c.write_all.result well c.write_all.ensures.ok) in
    serving_last _ _ _ _ _ _ _ _ _ _ _ _ _ _ _ i was _ _ c.from_residual-in_err-used.ensures.0 (front_all _ _ _ wrote)

pub advance-requires : goal.advance-requires
advance-requires g c =
    let came = c.in_ok-read_from.ensures.ok in
    let i = serving_read _ _ _ _ _ _ _ _ _ _ _ _ came.0 c.read_from.new.self.items c.loop.invariant.serving came.3 (came.2 ∙ ap (λ l. l ++ came.0) c.reserve.ensures.items) in
    rw c.as_slice.ensures at (c.in_ok-used.ensures.served i.deeds i.table).left.0

pub loop-preserved : goal.loop-preserved
loop-preserved g c =
    let came = c.in_ok-read_from.ensures.ok in
    let i = serving_read _ _ _ _ _ _ _ _ _ _ _ _ came.0 c.read_from.new.self.items c.loop.invariant.serving came.3 (came.2 ∙ ap (λ l. l ++ came.0) c.reserve.ensures.items) in
    let was = rw (c.as_slice.ensures, c.loop.invariant.out) at (c.in_ok-used.ensures.served i.deeds i.table) in
    let well = sym c.is_err.ensures.value ∙ c.if-is_err.false in
    let wrote = rw c.as_slice-in-loop.ensures.value at (when_ok c.write_all.result well c.write_all.ensures.ok) in
    record {
      serving = serving_more _ _ _ _ _ _ _ _ _ _ _ _ _ _ _ i was _ c.advance.new.self.items wrote (c.advance.ensures.items ∙ was.left.1) was.table
          c.serve_held-used.ensures.config;
      out = c.clear.ensures.items;
      sound = c.in_ok-used.ensures.sound;
      writes = c.write_all.ensures.fault ∙ well;
    }

-- all turns were taken
pub returns-clause-served : goal.returns-clause-served
returns-clause-served g c = serving_ends _ _ _ _ _ _ _ _ _ _ _ _ c.loop.invariant.serving tt tt
