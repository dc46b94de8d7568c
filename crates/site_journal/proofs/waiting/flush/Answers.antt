use Rattle.std.proofs.Common.{rules, ◌++◌, ◌∙◌, ap, subst, sym, take}
use Rattle.std.proofs.KnownBytes.{Appends-trans}
use Rattle.std.specs.Io.KnownBytes.{Appends, append_known}
use Rattle.site_journal.proofs.Flushing.{written_front}
use Rattle.site_journal.proofs.waiting.flush.Goals as goal

-- the sink took the front of what waits
pub loop-sink-preserved : goal.loop-sink-preserved
loop-sink-preserved g c =
    let contents = g.W.Sink.contents in
    let i = c.loop-sink.invariant in
    let steady = g.met.W.Steady.steady c.loop-sink.sink ∙ sym (g.met.W.Steady.steady c.write.new.self) in
    let front = subst (λ bytes. Appends (contents c.loop-sink.sink) (contents c.write.new.self) (take c.in_ok-taken.taken bytes)) c.deref.ensures.value
    c.in_ok-taken.ensures.bytes in
    record {
      same = ap (append_known (contents c.write.new.self)) c.remove.ensures.rest
          ∙ written_front (contents c.loop-sink.sink) (contents c.write.new.self) c.loop-sink.waiting.bytes.items c.in_ok-taken.taken steady front ∙ i.same;
      grows = (i.grows.0 ++ take c.in_ok-taken.taken c.loop-sink.waiting.bytes.items, Appends-trans _ _ _ _ _ i.grows.1 front);
      sound = search rules;
      kept = c.remove.ensures.sound ∙ i.kept;
    }
