use Rattle.std.proofs.Common.{ap, map}
use Rattle.std.specs.String.{string_bytes}
use Rattle.site_journal.proofs.Committing.{holds_known, nothing_more}
use Rattle.site_journal.proofs.journal.LogJournal.new.Goals as goal

pub returns-clause-settled : goal.returns-clause-settled
returns-clause-settled g c opened = record {
  out = nothing_more (g.W.Sink.contents c.args.sink) c.new-2.result.bytes.items c.new-2.ensures.none;
  opened = opened;
  committed = holds_known g.S.Store c.args.log (map string_bytes c.new.result.items) (ap (map string_bytes) c.new.ensures.items) opened
      c.law_left_by_a_crash.ensures.holds;
}
