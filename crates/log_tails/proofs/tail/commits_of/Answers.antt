use Rattle.std.proofs.Common.{◌≡◌, ℕ, ◌+◌, sym, refl, ap, ◌∙◌, rules, arith, add-one}
use Rattle.log_tails.specs.Tails.{commits_in}
use Rattle.log_tails.proofs.Reading.{one_more, no_more}
use Rattle.log_tails.proofs.tail.commits_of.Goals.{then-branch, else-branch}
use Rattle.log_tails.proofs.tail.commits_of.Goals as goal

pub loop-i-init : goal.loop-i-init
unfolding commits_in
loop-i-init g c = (λ clean. refl, search rules, omega arith)

pub loop-i-preserved : goal.loop-i-preserved
loop-i-preserved g c =
    let file = g.D.Disk.seen c.args.log.now in
    let size = c.args.page_size in
    let inv = c.loop-i.invariant in (
      λ clean.
          let was = inv.0 (c.ends_commit.ensures.same.clean clean) in
          let ends = rw inv.1.seen at (c.in_ok-ends_commit.ensures.ends clean) in
          elim c.if-branch.branch [
            | then-branch w ↦ w.count-is ∙ one_more size file c.loop-i.i c.loop-i.count was (ends.0 w.if-branch.true)
            | else-branch w ↦ w.count-is ∙ no_more size file c.loop-i.i c.loop-i.count c.in_ok-ends_commit.field-0 was ends w.if-branch.false
          ],
      search rules,
      elim c.if-branch.branch [ then-branch w ↦ omega (arith, inv.2) | else-branch w ↦ omega (arith, inv.2) ],
    )
