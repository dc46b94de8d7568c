use Rattle.std.proofs.Common.{ℕ, ◌∙◌, ◌==◌, ◌<◌, length, get_or, refl, arith}
use Rattle.callback_store.proofs.Repeats.{repeats-start, repeats-more_at, is_new, seen-more}
use Rattle.callback_store.proofs.plugins.has_repeat.Goals as goal

pub loop-number-init : goal.loop-number-init
loop-number-init c = record { seen = c.new-seen.ensures.empty; repeat = repeats-start (λ m n. m == n) c.args.numbers.now }

pub loop-number-preserved : goal.loop-number-preserved
loop-number-preserved c =
    let within : c.loop-number.number-index < length c.args.numbers.now = omega arith in
    let next : ℕ = get_or c.args.numbers.now c.loop-number.number-index 0 in
    record {
      seen = seen-more c.args.numbers.now c.loop-number.seen.keys c.insert.new.self.keys c.loop-number.number-index c.in_ok-insert.field-0
          c.loop-number.invariant.seen within c.if-not-branch.false c.in_ok-insert.ensures.added c.in_ok-insert.ensures.keys;
      repeat = c.loop-number.invariant.repeat
          ∙ repeats-more_at (λ m n. m == n) c.args.numbers.now c.loop-number.number-index next 0 within refl
          (is_new c.args.numbers.now c.loop-number.seen.keys c.insert.new.self.keys c.loop-number.number-index c.in_ok-insert.field-0
          c.loop-number.invariant.seen c.if-not-branch.false c.in_ok-insert.ensures.added);
    }
