use Rattle.std.proofs.Common.{arith, Ok, ◌≡◌, ◌∙◌, length, refl, sym, ap}
use Rattle.std.proofs.lemmas.Grind.{common_steps}
use Rattle.http_server.specs.Connection.{history}
use Rattle.http_server.specs.History.{History}
use Rattle.http_streams.proofs.Round.{calls_sound}
use Rattle.http_streams.proofs.Parts.{commits, ends, first_ended, last_read, later_read, loses, nil_of, on_no_ok, reads, sends, stays, untouched}
use Rattle.http_streams.proofs.part.serve_part.Goals as goal
use Rattle.http_streams.proofs.part.serve_part.Goals.{then-wants_write+in_ok-drain, else-wants_write+else-is_empty+in_ok-read_from-2+else-branch-eq0}
use Rattle.http_streams.proofs.part.serve_part.Goals.{then-is_empty-via-then-is_empty, then-is_empty-via-else-is_empty+in_ok-read_from-2+then-branch-eq0}

-- nothing could be read
pub returns-in_err-read_from-clause-part : goal.returns-in_err-read_from-clause-part
returns-in_err-read_from-clause-part g c =
    ends _ _ _ _ _ _ _ c.read_from.new.self _ _ _ c.from_residual.result
    (untouched _ _ _ _ _ _ _ c.read_from.new.self c.in_err-read_from.ensures.err.0 c.read_from.ensures.config)
    (on_no_ok _ c.from_residual.result c.from_residual.ensures.0)

pub loop-init : goal.loop-init
loop-init g c =
    let came = c.in_ok-read_from.ensures.ok in
    record {
      going = reads _ _ _ _ _ _ _ c.args.connection.now c.read_from.new.self _ _ _ _ came.0
          (untouched _ _ _ _ _ _ _ c.args.connection.now refl refl) came.2 came.3 c.read_from.ensures.config;
      ended = first_ended c.in_ok-read_from.field-0 (history c.args.connection.now).ended (history c.read_from.new.self).ended came.0 _ _ came.1 came.2
          (ap (λ (h : History). h.ended) came.3) (λ zero. c.in_ok-read_from.ensures.end (ap Ok zero));
      sound = c.requires;
    }

pub commit-requires : goal.commit-requires
commit-requires g c = calls_sound g.S.Service.answers g.S.Commits.is_sound g.met.S.Commits.stays_sound _ _ _ _ c.advance.ensures.calls c.loop.invariant.sound

-- a round was lost
pub returns-then-not-commit-clause-part : goal.returns-then-not-commit-clause-part
returns-then-not-commit-clause-part g c =
    loses _ _ _ _ _ _ _ c.loop.connection c.advance.new.self _ _ _ _ _ _ refl c.loop.invariant.going c.advance.ensures.calls
    (rw c.if-not-commit.true at c.commit.ensures.settles) c.advance.ensures.quiet c.advance.ensures.config

-- memory for a frame ran out
pub returns-in_err-drain-clause-part : goal.returns-in_err-drain-clause-part
returns-in_err-drain-clause-part g c =
    let made = commits _ _ _ _ _ _ _ c.loop.connection c.advance.new.self _ _ _ _ _ c.loop.invariant.going c.advance.ensures.calls
    (rw c.if-not-commit.false at c.commit.ensures.settles) c.advance.ensures.quiet c.advance.ensures.config in
    let sent = c.drain.ensures in
    let result = c.from_residual-in_err-drain.result in
    ends _ _ _ _ _ _ _ c.drain.new.connection _ _ _ result
    (sends _ _ _ _ _ _ _ c.advance.new.self c.drain.new.connection _ _ _ _ sent.sent.0 made sent.sent.1 sent.sent.2 sent.received sent.calls sent.config)
    (on_no_ok _ result c.from_residual-in_err-drain.ensures.0)

-- a later read failed
pub returns-in_err-read_from-2-clause-part : goal.returns-in_err-read_from-2-clause-part
returns-in_err-read_from-2-clause-part g c =
    let made = commits _ _ _ _ _ _ _ c.loop.connection c.advance.new.self _ _ _ _ _ c.loop.invariant.going c.advance.ensures.calls
    (rw c.if-not-commit.false at c.commit.ensures.settles) c.advance.ensures.quiet c.advance.ensures.config in
    let result = c.from_residual-in_err-read_from-2.result in
    ends _ _ _ _ _ _ _ c.read_from-else-is_empty.new.self _ _ _ result
    (stays _ _ _ _ _ _ _ c.advance.new.self c.read_from-else-is_empty.new.self _ _ _ made c.in_err-read_from-2.ensures.err.0 c.read_from-else-is_empty.ensures.config)
    (on_no_ok _ result c.from_residual-in_err-read_from-2.ensures.0)

-- the frame is used up, or its connection takes no more of it
pub returns-then-is_empty-clause-part : goal.returns-then-is_empty-clause-part
returns-then-is_empty-clause-part g c =
    let made = commits _ _ _ _ _ _ _ c.loop.connection c.advance.new.self _ _ _ _ _ c.loop.invariant.going c.advance.ensures.calls
    (rw c.if-not-commit.false at c.commit.ensures.settles) c.advance.ensures.quiet c.advance.ensures.config in
    let quiet = c.advance.ensures.quiet.1 in
    elim c.then-is_empty.branch [
      | then-is_empty-via-then-is_empty w ↦ rw w.connection-is (ends _ _ _ _ _ _ _ c.advance.new.self _ _ _ _ made (quiet ∙ c.loop.invariant.ended, λ open_before. nil_of c.loop.rest.now (sym w.if-is_empty.ensures)))
      | then-is_empty-via-else-is_empty+in_ok-read_from-2+then-branch-eq0 w ↦
          let came = w.in_ok-read_from-2.ensures.ok in
          rw w.connection-is (ends _ _ _ _ _ _ _ w.read_from-else-is_empty.new.self _ _ _ _
          (reads _ _ _ _ _ _ _ c.advance.new.self w.read_from-else-is_empty.new.self _ _ _ _ came.0 made came.2 came.3 w.read_from-else-is_empty.ensures.config)
          (let zero : w.in_ok-read_from-2.field-0 ≡ 0 = grind (arith, common_steps, w.if-branch-eq0.true) in
          let ends_so = last_read (history c.args.connection.now).ended (history c.advance.new.self).ended c.args.frame.bytes.now made.taken c.loop.rest.now
          came.0 w.read_from-else-is_empty.new.reader.now (quiet ∙ c.loop.invariant.ended) made.cut (sym w.if-is_empty.ensures) came.2
          (came.1 ∙ zero) (w.in_ok-read_from-2.ensures.end (ap Ok zero)) in
          (ap (λ (h : History). h.ended) came.3 ∙ ends_so.0, ends_so.1)))
    ]

pub loop-preserved : goal.loop-preserved
loop-preserved g c =
    let made = commits _ _ _ _ _ _ _ c.loop.connection c.advance.new.self _ _ _ _ _ c.loop.invariant.going c.advance.ensures.calls
    (rw c.if-not-commit.false at c.commit.ensures.settles) c.advance.ensures.quiet c.advance.ensures.config in
    let sound = c.commit.ensures.sound c.if-not-commit.false in
    let quiet = c.advance.ensures.quiet.1 in
    elim c.if-wants_write.branch [
      | then-wants_write+in_ok-drain w ↦
          let sent = w.drain.ensures in
          rw (w.connection-is, w.out-is, w.rest-is) (record {
            going = sends _ _ _ _ _ _ _ c.advance.new.self w.drain.new.connection _ _ _ _ sent.sent.0 made sent.sent.1 sent.sent.2 sent.received sent.calls sent.config;
            ended = sent.ended ∙ quiet ∙ c.loop.invariant.ended;
            sound = sound;
          })
      | else-wants_write+else-is_empty+in_ok-read_from-2+else-branch-eq0 w ↦
          let came = w.in_ok-read_from-2.ensures.ok in
          rw (w.connection-is, w.out-is, w.rest-is) (record {
            going = reads _ _ _ _ _ _ _ c.advance.new.self w.read_from-else-is_empty.new.self _ _ _ _ came.0 made came.2 came.3 w.read_from-else-is_empty.ensures.config;
            ended = ap (λ (h : History). h.ended) came.3 ∙ later_read (history c.advance.new.self).ended (length came.0) (let count = came.1 in let more = w.if-branch-eq0.false in grind (arith, common_steps, count, more)) ∙ quiet ∙ c.loop.invariant.ended;
            sound = sound;
          })
    ]

pub returns-clause-part : goal.returns-clause-part
returns-clause-part g c = ends _ _ _ _ _ _ _ c.loop.connection _ _ _ _ c.loop.invariant.going tt
