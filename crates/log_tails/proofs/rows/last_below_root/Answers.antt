use Rattle.std.proofs.Common.{◌≡◌, ◌+◌, ◌-◌, ℕ, List, length, sym, ap₂, ◌∙◌, rules, arith}
use Rattle.log_tails.specs.Rows.{has_page, page_of, last_under}
use Rattle.log_tails.proofs.Finding.{ends_outside, ends_there, ends_below, goes_on}
use Rattle.log_tails.proofs.rows.last_below_root.Goals as goal

pub returns-then-not-branch-clause-last : goal.returns-then-not-branch-clause-last
returns-then-not-branch-clause-last g c clean =
    let size = length c.args.page.now in
    let file = g.D.Disk.seen c.args.db.now in
    let n = c.loop.number in
    let same = ap₂ (λ (s : ℕ) (f : List ℕ). has_page s f n) c.loop.auto.page c.loop.invariant.same.seen in
    let none = sym same ∙ sym (c.in_ok-read_page.ensures.found clean) ∙ c.if-not-branch.true in
    ends_outside (20 - c.loop.counter) size file n none ∙ c.loop.invariant.under (c.read_page.ensures.same.clean clean)

pub returns-then-page-ne-INTERIOR-clause-last : goal.returns-then-page-ne-INTERIOR-clause-last
returns-then-page-ne-INTERIOR-clause-last g c clean =
    let size = length c.args.page.now in
    let file = g.D.Disk.seen c.args.db.now in
    let n = c.loop.number in
    let same = ap₂ (λ (s : ℕ) (f : List ℕ). has_page s f n) c.loop.auto.page c.loop.invariant.same.seen in
    let found = sym same ∙ sym (c.in_ok-read_page.ensures.found clean) ∙ c.if-not-branch.false in
    let bytes = ap₂ (λ (s : ℕ) (f : List ℕ). page_of s f n) c.loop.auto.page c.loop.invariant.same.seen in
    let read = c.in_ok-read_page.ensures.read clean c.if-not-branch.false ∙ bytes in
    c.last_of.ensures.last
    ∙ ends_there (20 - c.loop.counter) size file n c.read_page.new.page (omega (arith, c.loop-test.true)) found read c.if-page-ne-INTERIOR.true
    ∙ c.loop.invariant.under (c.read_page.ensures.same.clean clean)

pub loop-preserved : goal.loop-preserved
loop-preserved g c = record {
  same = search rules;
  under = λ clean.
      let size = length c.args.page.now in
      let file = g.D.Disk.seen c.args.db.now in
      let n = c.loop.number in
      let same = ap₂ (λ (s : ℕ) (f : List ℕ). has_page s f n) c.loop.auto.page c.loop.invariant.same.seen in
      let found = sym same ∙ sym (c.in_ok-read_page.ensures.found clean) ∙ c.if-not-branch.false in
      let bytes = ap₂ (λ (s : ℕ) (f : List ℕ). page_of s f n) c.loop.auto.page c.loop.invariant.same.seen in
      let read = c.in_ok-read_page.ensures.read clean c.if-not-branch.false ∙ bytes in
      let less : 20 - (c.loop.counter + 1) ≡ 20 - c.loop.counter - 1 = omega arith in
      ap₂ (λ (d m : ℕ). last_under d size file m) less c.get_u32-number.ensures
      ∙ sym (goes_on (20 - c.loop.counter) size file n c.read_page.new.page (omega (arith, c.loop-test.true)) found read c.if-page-ne-INTERIOR.false)
      ∙ c.loop.invariant.under (c.read_page.ensures.same.clean clean);
}

pub returns-clause-last : goal.returns-clause-last
returns-clause-last g c clean =
    let file = g.D.Disk.seen c.args.db.now in
    ends_below (20 - c.loop.counter) (length c.args.page.now) file c.loop.number (omega (arith, c.loop-test.false))
    ∙ c.loop.invariant.under clean
