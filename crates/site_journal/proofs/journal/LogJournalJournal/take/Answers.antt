use Rattle.std.proofs.Common.{rules, arith, inr, ◌∙◌, map, subst, sym, vec_len}
use Rattle.std.proofs.lemmas.Bool.{eqb-true}
use Rattle.std.specs.String.{string_bytes}
use Rattle.std.specs.Io.KnownBytes.{append_known}
use Rattle.byte_io.specs.Known.{AppendsFront}
use Rattle.site_journal.specs.Known.{known_lines}
use Rattle.site_journal.proofs.Committing.{holds_known, no_lines}
use Rattle.site_journal.proofs.Taking.{Grows-nil, front_waits, whole_waits, on_err}
use Rattle.site_journal.proofs.journal.LogJournalJournal.take.Goals as goal

-- memory ran out while the reply was taken
pub returns-in-Err-clause-part : goal.returns-in-Err-clause-part
returns-in-Err-clause-part g c =
    let old = c.args.self.now in
    front_waits (g.W.Sink.contents old.sink) old.waiting.bytes.items c.write_to-2.new.writer.bytes.items (g.M.Message.bytes c.args.message.now)
    c.in-Err.ensures.part

pub returns-in-Err-clause-noted : goal.returns-in-Err-clause-noted
returns-in-Err-clause-noted g c = Grows-nil (known_lines g.S.Store c.args.self.now.log (map string_bytes c.args.self.now.lines.items))

-- the reply was taken, and then what waits was let out
pub returns-clause-part : goal.returns-clause-part
returns-clause-part g c =
    let old = c.args.self.now in
    let bytes = g.M.Message.bytes c.args.message.now in
    on_err c.settle.result (subst (λ now. AppendsFront (append_known (g.W.Sink.contents old.sink) old.waiting.bytes.items) now bytes)
    (sym c.settle.ensures.contents)
    (whole_waits (g.W.Sink.contents old.sink) old.waiting.bytes.items c.write_to-2.new.writer.bytes.items bytes c.in_default.ensures.ok))

-- nothing waits, so the reply was written at once
pub returns-then-is_empty-2-clause-out : goal.returns-then-is_empty-2-clause-out
returns-then-is_empty-2-clause-out g c =
    let old = c.args.self.now in
    let zero = eqb-true (vec_len old.lines) 0 (sym c.is_empty.ensures ∙ c.if-is_empty.true) in
    let same = old.lines.ok.0 in
    let none = no_lines string_bytes old.lines.items (omega (arith, zero, same)) in
    record {
      writes = search rules;
      front = search rules;
      commits = search rules;
      first = λ opened. inr (holds_known g.S.Store old.log (map string_bytes old.lines.items) none opened c.law_left_by_a_crash.ensures.holds);
    }
