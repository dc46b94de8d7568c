use Rattle.std.proofs.Common.{arith, ◌∙◌, ap, sym, length}
use Rattle.serde_json.specs.View.{view}
use Rattle.site_import.specs.Templates.{template_at}
use Rattle.site_import.proofs.Walks.{members_step}
use Rattle.site_import.proofs.templates.read_each.Goals as goal

pub loop-name-preserved : goal.loop-name-preserved
loop-name-preserved c =
    let i = c.loop-name.invariant in
    let cut = c.in-Some.ensures.steps in
    let read = ap (λ n. template_at c.loop-name.entry (n, view c.in-Some.value.now)) (sym c.as_str.ensures.value) ∙ c.in_ok-read_one.ensures in
    let pushed = c.in_ok-push.ensures.ok in
    record {
      walked = rw pushed (members_step template_at _ _ _ _ _ _ _ _ i.walked cut read);
      counted = let l = ap length cut in omega arith;
      fits = i.fits;
    }
