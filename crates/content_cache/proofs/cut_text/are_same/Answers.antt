use Rattle.std.proofs.Common.{◌∙◌, ◌<◌, length, sym, arith}
use Rattle.std.specs.Prelude.{bytes_eq}
use Rattle.std.proofs.lemmas.Slice.Eq.{bytes_eq-Decides}
use Rattle.content_cache.proofs.Names.{same-more, not_false}
use Rattle.content_cache.proofs.cut_text.are_same.Goals as goal

pub loop-at-preserved : goal.loop-at-preserved
loop-at-preserved c =
    let same = (bytes_eq-Decides c.as_str.result.now c.as_str-in-loop-at.result.now).0
    (not_false (bytes_eq c.as_str.result.now c.as_str-in-loop-at.result.now) (sym c.ne.ensures ∙ c.if-ne.false)) in
    let other : c.loop-at.at < length c.args.right.now = omega arith in
    same-more c.args.left.now c.args.right.now c.loop-at.at c.index-left-at.result c.index-right-at.result c.loop-at-test.true other c.loop-at.invariant
    c.index-left-at.is c.index-right-at.is
    (sym c.as_str.ensures.text ∙ same ∙ c.as_str-in-loop-at.ensures.text)
