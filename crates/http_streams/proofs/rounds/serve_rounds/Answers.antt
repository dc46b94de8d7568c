use Rattle.std.proofs.Common.{ℕ, List, ◌++◌, take, ap, ◌∙◌, append_assoc}
use Rattle.http_server.specs.Connection.{history}
use Rattle.http_server.specs.History.{History}
use Rattle.http_server.proofs.KnownLemmas.{Appends-then, Appends-kept, Consumes-then}
use Rattle.http_streams.proofs.Round.{accounted, calls_sound, committed_more, committed_still, lost_more}
use Rattle.http_streams.proofs.rounds.serve_rounds.Goals.{then-not-wants_write+in_ok-flush-2+in_ok-read_from, else-not-wants_write+in_ok-write_to+else-branch-eq0}
use Rattle.http_streams.proofs.rounds.serve_rounds.Goals as goal

pub returns-then-not-commit-clause-rounds : goal.returns-then-not-commit-clause-rounds
returns-then-not-commit-clause-rounds g c = λ none.
    let quiet = c.advance.ensures.quiet in
    lost_more g.S.Service.answers g.S.Commits.settles _ _ _ _ c.loop.connection c.advance.new.self _ (c.loop.invariant.2 none) c.advance.ensures.calls (rw c.if-not-commit.true at c.commit.ensures.settles) c.advance.ensures.config quiet.0 quiet.2 c.into.ensures

pub returns-then-is_done-clause-rounds : goal.returns-then-is_done-clause-rounds
returns-then-is_done-clause-rounds g c = λ none.
    accounted g.S.Service.answers g.S.Commits.settles c.advance.new.self _ (committed_more g.S.Service.answers g.S.Commits.settles _ _ _ _ c.loop.connection c.advance.new.self (c.loop.invariant.2 none) c.advance.ensures.calls (rw c.if-not-commit.false at c.commit.ensures.settles))

pub returns-in_err-flush-clause-rounds : goal.returns-in_err-flush-clause-rounds
returns-in_err-flush-clause-rounds g c = λ none.
    accounted g.S.Service.answers g.S.Commits.settles c.advance.new.self _ (committed_more g.S.Service.answers g.S.Commits.settles _ _ _ _ c.loop.connection c.advance.new.self (c.loop.invariant.2 none) c.advance.ensures.calls (rw c.if-not-commit.false at c.commit.ensures.settles))

pub returns-in_err-flush-2-clause-rounds : goal.returns-in_err-flush-2-clause-rounds
returns-in_err-flush-2-clause-rounds g c = λ none.
    accounted g.S.Service.answers g.S.Commits.settles c.advance.new.self _ (committed_more g.S.Service.answers g.S.Commits.settles _ _ _ _ c.loop.connection c.advance.new.self (c.loop.invariant.2 none) c.advance.ensures.calls (rw c.if-not-commit.false at c.commit.ensures.settles))

pub returns-in_err-read_from-clause-rounds : goal.returns-in_err-read_from-clause-rounds
returns-in_err-read_from-clause-rounds g c = λ none.
    let made = committed_more g.S.Service.answers g.S.Commits.settles _ _ _ _ c.loop.connection c.advance.new.self (c.loop.invariant.2 none) c.advance.ensures.calls (rw c.if-not-commit.false at c.commit.ensures.settles) in
    accounted g.S.Service.answers g.S.Commits.settles c.read_from.new.self _ (committed_still g.S.Service.answers g.S.Commits.settles _ _ c.advance.new.self c.read_from.new.self (ap (λ (h : History). h.calls) c.in_err-read_from.ensures.err.0) made)

pub returns-in_err-write_to-clause-rounds : goal.returns-in_err-write_to-clause-rounds
returns-in_err-write_to-clause-rounds g c = λ none.
    let made = committed_more g.S.Service.answers g.S.Commits.settles _ _ _ _ c.loop.connection c.advance.new.self (c.loop.invariant.2 none) c.advance.ensures.calls (rw c.if-not-commit.false at c.commit.ensures.settles) in
    accounted g.S.Service.answers g.S.Commits.settles c.write_to.new.self _ (committed_still g.S.Service.answers g.S.Commits.settles _ _ c.advance.new.self c.write_to.new.self (ap (λ k. (history k).calls) c.in_err-write_to.ensures.err.0) made)

pub returns-then-branch-eq0-clause-rounds : goal.returns-then-branch-eq0-clause-rounds
returns-then-branch-eq0-clause-rounds g c = λ none.
    let made = committed_more g.S.Service.answers g.S.Commits.settles _ _ _ _ c.loop.connection c.advance.new.self (c.loop.invariant.2 none) c.advance.ensures.calls (rw c.if-not-commit.false at c.commit.ensures.settles) in
    accounted g.S.Service.answers g.S.Commits.settles c.write_to.new.self _ (committed_still g.S.Service.answers g.S.Commits.settles _ _ c.advance.new.self c.write_to.new.self (ap (λ (h : History). h.calls) c.in_ok-write_to.ensures.ok.0) made)

pub returns-clause-rounds : goal.returns-clause-rounds
returns-clause-rounds g c = λ none. accounted g.S.Service.answers g.S.Commits.settles c.loop.connection _ (c.loop.invariant.2 none)

pub loop-preserved : goal.loop-preserved
loop-preserved g c =
    let read = c.loop.invariant.0 in
    let written = c.loop.invariant.1 in
    let quiet = c.advance.ensures.quiet in
    let config = c.advance.ensures.config ∙ c.loop.invariant.3 in
    elim c.if-not-wants_write.branch [
      | then-not-wants_write+in_ok-flush-2+in_ok-read_from w ↦
          let came = w.in_ok-read_from.ensures.ok in
          rw (w.connection-is, w.reader-is, w.writer-is) (
            (
              read.0 ++ came.0,
              Consumes-then _ _ _ read.0 came.0 read.1 came.2,
              ap (λ (h : History). h.received) came.3 ∙ ap (λ (t : List ℕ). t ++ came.0) (quiet.0 ∙ read.2) ∙ append_assoc _ read.0 came.0,
            ),
            (written.0, Appends-kept _ _ _ written.0 written.1 w.flush-then-not-wants_write.ensures.bytes, ap (λ (h : History). h.sent) came.3 ∙ quiet.2 ∙ written.2),
            λ none. committed_still g.S.Service.answers g.S.Commits.settles _ _ c.advance.new.self w.read_from.new.self (ap (λ (h : History). h.calls) came.3) (committed_more g.S.Service.answers g.S.Commits.settles _ _ _ _ c.loop.connection c.advance.new.self (c.loop.invariant.2 none) c.advance.ensures.calls (rw c.if-not-commit.false at c.commit.ensures.settles)),
            w.read_from.ensures.config ∙ config,
            c.commit.ensures.sound (c.if-not-commit.false),
          )
      | else-not-wants_write+in_ok-write_to+else-branch-eq0 w ↦
          let went = w.in_ok-write_to.ensures.ok in
          let text = take w.in_ok-write_to.field-0 (history c.advance.new.self).pending in
          rw (w.connection-is, w.reader-is, w.writer-is) (
            (read.0, read.1, ap (λ (h : History). h.received) went.0 ∙ quiet.0 ∙ read.2),
            (
              written.0 ++ text,
              Appends-then _ _ _ written.0 text written.1 went.1,
              ap (λ (h : History). h.sent) went.0 ∙ ap (λ (t : List ℕ). t ++ text) (quiet.2 ∙ written.2) ∙ append_assoc _ written.0 text,
            ),
            λ none. committed_still g.S.Service.answers g.S.Commits.settles _ _ c.advance.new.self w.write_to.new.self (ap (λ (h : History). h.calls) went.0) (committed_more g.S.Service.answers g.S.Commits.settles _ _ _ _ c.loop.connection c.advance.new.self (c.loop.invariant.2 none) c.advance.ensures.calls (rw c.if-not-commit.false at c.commit.ensures.settles)),
            w.write_to.ensures.config ∙ config,
            c.commit.ensures.sound (c.if-not-commit.false),
          )
    ]

pub commit-requires : goal.commit-requires
commit-requires g c =
    calls_sound g.S.Service.answers g.S.Commits.is_sound g.met.S.Commits.stays_sound _ _ _ _ c.advance.ensures.calls c.loop.invariant.4
