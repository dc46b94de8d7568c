use Rattle.std.proofs.Common.{◌≡◌, ◌==◌, ◌∙◌, sym, subst, true, arith}
use Rattle.hook_registry.specs.declared.registration.Entry.{Entry}
use Rattle.hook_registry.proofs.Adding.{entry-there, entry-last}
use Rattle.hook_registry.proofs.entries.with_entry.Goals as goal

pub returns-then-eq : goal.returns-then-eq
returns-then-eq c =
    let found =
    entry-there c.args.new c.args.entries.now c.loop-at.at c.index-entries-at.result c.index_mut.result.now c.loop-at-test.true c.loop-at.invariant.passed
    c.index-entries-at.is (rw c.loop-at.invariant.same at c.index_mut.ensures.value)
    (subst (λ (e : Entry). (e.callback == c.args.new.callback) ≡ true) (sym c.index-entries-at.is) (sym c.eq.ensures ∙ c.if-eq.true))
    in
    rw c.loop-at.invariant.same found

pub returns : goal.returns
returns c =
    let last = entry-last c.args.new c.args.entries.now (λ k d l h. c.loop-at.invariant.passed k d l (omega (arith, c.loop-at-test.false, h))) in
    c.in_ok-push.ensures.items ∙ rw c.loop-at.invariant.same last
