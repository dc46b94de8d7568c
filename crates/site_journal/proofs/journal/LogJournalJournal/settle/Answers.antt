use Rattle.std.proofs.Common.{rules, inr, [], ap, map, subst}
use Rattle.std.specs.String.{string_bytes}
use Rattle.std.proofs.lemmas.Result.{on_ok_weaker}
use Rattle.byte_io.specs.Journal.{Grows}
use Rattle.site_journal.specs.Known.{known_lines}
use Rattle.site_journal.proofs.Committing.{holds_known, known_before, nothing_more}
use Rattle.site_journal.proofs.journal.LogJournalJournal.settle.Goals as goal

pub returns-clause-ok : goal.returns-clause-ok
returns-clause-ok g c opened =
    let done = c.in_default.ensures in
    let still = done.stays opened in
    on_ok_weaker c.flush.result
    (λ none. record {
      out = nothing_more (g.W.Sink.contents c.flush.new.sink) c.flush.new.waiting.bytes.items none;
      opened = still;
      committed = holds_known g.S.Store c.commit.new.log (map string_bytes c.commit.new.lines.items) (ap (map string_bytes) done.none) still
          c.law_left_by_a_crash.ensures.holds;
    }) c.flush.ensures.none

pub returns-clause-out : goal.returns-clause-out
returns-clause-out g c =
    let done = c.in_default.ensures in
    let old = known_lines g.S.Store c.args.self.now.log (map string_bytes c.args.self.now.lines.items) in
    record {
      writes = search rules;
      front = search rules;
      commits = search rules;
      first = λ opened. inr (λ held may.
          let known = holds_known g.S.Store c.commit.new.log (map string_bytes c.commit.new.lines.items) (ap (map string_bytes) done.none) (done.stays opened)
          c.law_left_by_a_crash.ensures.holds held may in
          known_before old held (subst (λ new. Grows old new []) known done.noted));
    }
