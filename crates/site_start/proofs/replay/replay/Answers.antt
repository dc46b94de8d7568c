use Rattle.std.proofs.Common.{◌≡◌, ◌∙◌, ◌+◌, ◌<◌, ◌≤◌, ◌++◌, ap, arith, drop, length, map, refl, subst, subst₂, sym, take-append-drop, vec_len}
use Rattle.std.proofs.lemmas.Bool.{eqb-true}
use Rattle.std.proofs.lemmas.List.{length-map}
use Rattle.std.specs.String.{string_bytes}
use Rattle.sqlite.specs.Held.{state}
use Rattle.sqlite.proofs.StateLemmas.{survives_then}
use Rattle.command_log.proofs.States.{clean_of, on_error}
use Rattle.command_log.specs.Faults.{IsCaused, Unreadable}
use Rattle.command_log.specs.Lines.{lines_after, lines_left}
use Rattle.site_serving.specs.Served.{state_after}
use Rattle.site_start.specs.Started.{AreDone, AreEdits, IsNumber, StopsAmong, Unread}
use Rattle.site_start.proofs.Replaying.{clean_before, nothing_left, same_then, survives_same}
use Rattle.site_start.proofs.Stopping.{all_numbers, caused_later, redone_more, redone_none, replay_stops, some_of, stops_after, unread_back}
use Rattle.site_start.proofs.replay.replay.Goals as goal

pub batches-init : goal.batches-init
batches-init g c = record {
  fixed = refl;
  survives = survives_same _;
  same = λ clean. refl;
  opened = λ clean up. up;
  done = λ clean. redone_none _ _ _ _ _ _;
}

-- nothing that was committed has changed
pub returns-in_err-batch-clause-same : goal.returns-in_err-batch-clause-same
returns-in_err-batch-clause-same g c =
    same_then g.S.Store g.met.S.Store.shut_if_dirty c.args.log.now c.batches.log c.read_batch.new.self _ c.batches.invariant.same c.read_batch.ensures.survives
    c.read_batch.ensures.committed

pub returns-then-is_empty-clause-same : goal.returns-then-is_empty-clause-same
returns-then-is_empty-clause-same g c =
    same_then g.S.Store g.met.S.Store.shut_if_dirty c.args.log.now c.batches.log c.read_batch.new.self _ c.batches.invariant.same c.read_batch.ensures.survives
    c.read_batch.ensures.committed

pub returns-in_err-redo_all-clause-same : goal.returns-in_err-redo_all-clause-same
returns-in_err-redo_all-clause-same g c =
    same_then g.S.Store g.met.S.Store.shut_if_dirty c.args.log.now c.batches.log c.read_batch.new.self _ c.batches.invariant.same c.read_batch.ensures.survives
    c.read_batch.ensures.committed

pub returns-clause-same : goal.returns-clause-same
returns-clause-same g c = λ up. c.batches.invariant.same (clean_of g.S.Store g.met.S.Store.shut_if_dirty c.batches.log up)

-- ---- no line is left

pub returns-then-is_empty-clause-done : goal.returns-then-is_empty-clause-done
returns-then-is_empty-clause-done g c = λ clean.
    let store = g.S.Store in
    let read = c.in_ok-batch.ensures in
    let before = c.batches.invariant.done (clean_before store c.batches.log c.read_batch.new.self _ read.survives clean) in
    let items = c.in_ok-batch.batch.lines.items in
    let none : length items < 1 = let zero = eqb-true (vec_len c.in_ok-batch.batch.lines) 0 (sym c.is_empty.ensures ∙ c.if-is_empty.true) in
    let same = c.in_ok-batch.batch.lines.ok.0 in omega (arith, zero, same) in
    before.made ∙ ap (state_after (g.C.Commands.steps (g.C.Commands.fixed c.args.site.now)) (g.C.Commands.state c.args.site.now))
    (sym (nothing_left string_bytes items (lines_left store c.args.log.now c.args.first) before.lines
    (lines_left store c.batches.log c.batches.place) 999 before.cut (read.ok clean) none))

-- so all were edits
pub returns-then-is_empty-clause-edits : goal.returns-then-is_empty-clause-edits
returns-then-is_empty-clause-edits g c = λ clean.
    let store = g.S.Store in
    let read = c.in_ok-batch.ensures in
    let before = c.batches.invariant.done (clean_before store c.batches.log c.read_batch.new.self _ read.survives clean) in
    let items = c.in_ok-batch.batch.lines.items in
    let none : length items < 1 = let zero = eqb-true (vec_len c.in_ok-batch.batch.lines) 0 (sym c.is_empty.ensures ∙ c.if-is_empty.true) in
    let same = c.in_ok-batch.batch.lines.ok.0 in omega (arith, zero, same) in
    subst (AreEdits g.C.Commands.edits)
    (sym (nothing_left string_bytes items (lines_left store c.args.log.now c.args.first) before.lines
    (lines_left store c.batches.log c.batches.place) 999 before.cut (read.ok clean) none))
    before.edited

-- the lines of one more batch were carried out
pub batches-preserved : goal.batches-preserved
batches-preserved g c =
    let store = g.S.Store in
    let seen = g.C.Commands.state in
    let first = c.args.log.now in
    let mid = c.batches.log in
    let new = c.read_batch.new.self in
    let fixed = g.C.Commands.fixed c.args.site.now in
    let steps = g.C.Commands.steps in
    let replies = g.C.Commands.replies in
    let keeps = g.C.Commands.keeps in
    let i = c.batches.invariant in
    let read = c.in_ok-batch.ensures in
    let did = c.in_ok-redo_all.ensures in
    let items = c.in_ok-batch.batch.lines.items in
    let lines = map string_bytes items in
    let value = c.deref.ensures.value in
    let long = length-map items string_bytes in
    let any : 0 < length lines = let some = some_of (vec_len c.in_ok-batch.batch.lines) (sym c.is_empty.ensures ∙ c.if-is_empty.false) in
    let same = c.in_ok-batch.batch.lines.ok.0 in omega (arith, some, same, long) in
    record {
      fixed = did.fixed ∙ i.fixed;
      survives = survives_then (state store first) (state store mid) (state store new) _ _ (λ _. ⊥) (λ _ db none. none) (λ _ db none. none) i.survives
          read.survives;
      same = λ clean. read.committed (read.stays clean) ∙ i.same (clean_before store mid new _ read.survives clean);
      opened = λ clean up. read.stays clean;
      done = λ clean.
          let left = ap (λ d. lines_after c.in_ok-batch.batch.next d.trees) (read.committed (read.stays clean)) ∙ read.left clean in
          let made = did.done ∙ ap (λ f. state_after (steps f) (seen c.batches.site) (map string_bytes c.deref.result.now)) i.fixed
          ∙ ap (λ xs. state_after (steps fixed) (seen c.batches.site) (map string_bytes xs)) value in
          redone_more (steps fixed) (replies fixed) keeps g.C.Commands.edits (seen c.args.site.now) (seen c.batches.site) (seen c.redo_all.new.site)
          (lines_left store first c.args.first) (lines_left store mid c.batches.place) lines (lines_left store new c.in_ok-batch.batch.next) 1000 _ _ _
          (i.done (clean_before store mid new _ read.survives clean)) (read.ok clean) left made
          (subst (λ xs. AreEdits g.C.Commands.edits (map string_bytes xs)) value did.edits)
          (subst₂ (λ f xs. AreDone (steps f) keeps (seen c.batches.site) (map string_bytes xs)) i.fixed value did.kept)
          (λ n is. subst (λ m. IsNumber (n + m) c.redo_all.new.count) (ap length value ∙ sym long) (did.counted n is)) any;
    }

-- ---- why it failed

pub returns-in_err-batch-clause-cause : goal.returns-in_err-batch-clause-cause
returns-in_err-batch-clause-cause g c = λ clean up.
    let store = g.S.Store in
    let mid = c.batches.log in
    let new = c.read_batch.new.self in
    let i = c.batches.invariant in
    let early = clean_before store mid new _ c.read_batch.ensures.survives clean in
    let before = i.done early in
    let whole = lines_left store c.args.log.now c.args.first in
    let left = lines_left store mid c.batches.place in
    on_error _ _
    (caused_later (state store c.args.log.now) (state store mid) (state store new) _ (Unreadable left) (Unread 1 whole)
    (unread_back 1 whole before.lines left before.cut) i.survives _ (c.in_err-batch.ensures.cause clean (i.opened early up)))
    c.from_residual.result c.from_residual.ensures.1

pub returns-in_err-redo_all-clause-cause : goal.returns-in_err-redo_all-clause-cause
returns-in_err-redo_all-clause-cause g c = λ clean up.
    let store = g.S.Store in
    let seen = g.C.Commands.state in
    let fixed = g.C.Commands.fixed c.args.site.now in
    let steps = g.C.Commands.steps in
    let replies = g.C.Commands.replies in
    let keeps = g.C.Commands.keeps in
    let mid = c.batches.log in
    let i = c.batches.invariant in
    let read = c.in_ok-batch.ensures in
    let before = i.done (clean_before store mid c.read_batch.new.self _ read.survives clean) in
    let whole = lines_left store c.args.log.now c.args.first in
    let left = lines_left store mid c.batches.place in
    let batch = map string_bytes c.in_ok-batch.batch.lines.items in
    let cut : left ≡ batch ++ drop 1000 left = sym (take-append-drop 1000 left) ∙ ap (λ b. b ++ drop 1000 left) (sym (read.ok clean)) in
    let stops = subst₂ (λ f xs. StopsAmong (steps f) (replies f) keeps (seen c.batches.site) (1 + length before.lines) (map string_bytes xs) c.in_err-redo_all.field-0.0) i.fixed
    c.deref.ensures.value (c.in_err-redo_all.ensures.cause (1 + length before.lines) before.number) in
    on_error _ _
    (replay_stops (steps fixed) (replies fixed) keeps (IsCaused (state store c.args.log.now) (state store c.read_batch.new.self) (Unread 1 whole)) (seen c.args.site.now) whole
    c.in_err-redo_all.field-0.0
    (stops_after (steps fixed) (replies fixed) keeps (seen c.args.site.now) (seen c.batches.site) 1 whole before.lines batch (drop 1000 left) _
    (before.cut ∙ ap (λ l. before.lines ++ l) cut) before.made before.all stops))
    c.from_residual-in_err-redo_all.result c.from_residual-in_err-redo_all.ensures.1

-- there are no more numbers
pub returns-clause-cause : goal.returns-clause-cause
returns-clause-cause g c = λ clean up.
    let many : 18446744073709551615 ≤ c.batches.counter = omega arith in
    all_numbers _ _ _ _ _ _ _ _ _ _ (c.batches.invariant.done clean) many
