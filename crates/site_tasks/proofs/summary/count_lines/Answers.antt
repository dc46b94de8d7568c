use Rattle.std.proofs.Common.{◌≡◌, ◌+◌, ◌∙◌, ◌<◌, ap, arith, length, rules, sym, vec_len}
use Rattle.std.proofs.lemmas.Bool.{eqb-true}
use Rattle.std.specs.String.{string_bytes}
use Rattle.sqlite.specs.Held.{state}
use Rattle.sqlite.proofs.StateLemmas.{survives_then}
use Rattle.command_log.specs.Lines.{lines_after, lines_left, lines_of}
use Rattle.site_start.proofs.Replaying.{clean_before}
use Rattle.site_tasks.proofs.Counting.{all_counted, batch_counted}
use Rattle.site_tasks.proofs.summary.count_lines.Goals as goal

pub returns-then-is_empty-clause-count : goal.returns-then-is_empty-clause-count
returns-then-is_empty-clause-count g c = λ clean.
    let store = g.S.Store in
    let read = c.in_ok-batch.ensures in
    let before = c.batches.invariant.counted (clean_before store c.batches.log c.read_batch.new.self _ read.survives clean) in
    let items = c.in_ok-batch.batch.lines.items in
    let none : length items < 1 = let zero = eqb-true (vec_len c.in_ok-batch.batch.lines) 0 (sym c.is_empty.ensures ∙ c.if-is_empty.true) in
    let same = c.in_ok-batch.batch.lines.ok.0 in omega (arith, zero, same) in
    all_counted string_bytes items (lines_left store c.batches.log c.batches.place) 999 c.batches.count (length (lines_of store c.args.log.now)) (read.ok clean)
    none before

pub returns-then-is_empty-clause-same : goal.returns-then-is_empty-clause-same
returns-then-is_empty-clause-same g c = λ clean.
    let read = c.in_ok-batch.ensures in
    read.committed (read.stays clean) ∙ c.batches.invariant.same (clean_before g.S.Store c.batches.log c.read_batch.new.self _ read.survives clean)

-- the lines of one more batch were counted
pub batches-preserved : goal.batches-preserved
batches-preserved g c =
    let store = g.S.Store in
    let first = c.args.log.now in
    let mid = c.batches.log in
    let new = c.read_batch.new.self in
    let i = c.batches.invariant in
    let read = c.in_ok-batch.ensures in
    let items = c.in_ok-batch.batch.lines.items in
    let same = c.in_ok-batch.batch.lines.ok.0 in
    let more : c.in-Some.more ≡ c.batches.count + vec_len c.in_ok-batch.batch.lines = search rules in
    let counted : c.in-Some.more ≡ c.batches.count + length items = omega (arith, same, more) in
    record {
      survives = survives_then (state store first) (state store mid) (state store new) _ _ (λ _. ⊥) (λ _ db none. none) (λ _ db none. none) i.survives
          read.survives;
      same = λ clean. read.committed (read.stays clean) ∙ i.same (clean_before store mid new _ read.survives clean);
      counted = λ clean.
          let left = ap (λ d. lines_after c.in_ok-batch.batch.next d.trees) (read.committed (read.stays clean)) ∙ read.left clean in
          batch_counted string_bytes items (lines_left store mid c.batches.place) (lines_left store new c.in_ok-batch.batch.next) 1000 c.batches.count
          c.in-Some.more (length (lines_of store first)) (read.ok clean) left counted (i.counted (clean_before store mid new _ read.survives clean));
    }
