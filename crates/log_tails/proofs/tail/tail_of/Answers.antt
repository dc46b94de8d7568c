use Rattle.std.proofs.Common.{rules, arith, ◌≡◌, ◌∙◌, sym, ap, List, ℕ, length, slice_index, inl, inr, subst, Bool, IsTrue}
use Rattle.sqlite_disk.specs.Disk.{Holds}
use Rattle.sqlite_wal.specs.Format.{IsSigned, part}
use Rattle.sqlite_wal.specs.Recovery.{header}
use Rattle.sqlite_wal.proofs.PartLemmas.{held_is_part}
use Rattle.std.proofs.lemmas.Bool.{false≢true}
use Rattle.log_tails.specs.Tails.{IsBegun}
use Rattle.log_tails.proofs.Reading.{begun}
use Rattle.log_tails.proofs.tail.tail_of.Goals as goal

pub tail_under-requires-clause-head : goal.tail_under-requires-clause-head
tail_under-requires-clause-head g c clean =
    let file = g.D.Disk.seen c.read_at.new.self in
    let len : length c.read_at.new.buf ≡ 32 = search rules in
    let holds : Holds file 0 c.read_at.new.buf =
    rw c.read_at.ensures.seen (c.in_ok-read_at.ensures.read clean (omega arith)) in
    sym (held_is_part file c.read_at.new.buf 0 32 holds len)

pub returns-else-is_signed-clause-tail : goal.returns-else-is_signed-clause-tail
returns-else-is_signed-clause-tail g c clean =
    let file = g.D.Disk.seen c.args.log.now in
    let head = c.read_at.new.buf in
    let len32 : length head ≡ 32 = search rules in
    let holds : Holds file 0 head = rw c.len.ensures.seen at (c.in_ok-read_at.ensures.read clean (omega arith)) in
    let same : head ≡ header file = sym (held_is_part file head 0 32 holds len32) in
    let long : c.in_ok-len.len ≡ length file = c.in_ok-len.ensures.len (c.read_at.ensures.clean clean) in
    let tail = c.unread-else-is_signed in
    let test = begun file (slice_index head 0) (λ short. omega (arith, long, short, c.if-len-lt-SHORTEST.false)) (sym (holds.each 0 (omega arith))) in
    inl (record {
      unsigned = inr (λ signed. false≢true (sym c.if-is_signed.false ∙ c.is_signed.ensures.1 (subst IsSigned (sym same) signed)));
      commits = tail.ensures.commits;
      bytes = tail.ensures.bytes;
      following = tail.ensures.following ∙ long;
      database = tail.ensures.database;
      whole = subst (λ (b : Bool). (IsTrue b → IsBegun file) × (IsBegun file → IsTrue b)) (sym tail.ensures.whole) test;
    })
