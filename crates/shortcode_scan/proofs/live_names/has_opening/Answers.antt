use Rattle.std.proofs.Common.{length, sym, ap, arith}
use Rattle.shortcode_scan.proofs.LiveLemmas.{none_opened, one_more, has_opening-true, has_opening-false}
use Rattle.shortcode_scan.proofs.live_names.has_opening.Goals as goal

pub returns-then-is_name_end : goal.returns-then-is_name_end
returns-then-is_name_end c =
    sym (has_opening-true c.args.text.now c.args.opening.now _ _ (omega (arith, c.in-Some.ensures.within, ap length c.new-tag.ensures)) c.search.invariant.1
    (sym (rw c.new-tag.ensures at c.in-Some.ensures.value)) (sym c.if-is_name_end.ensures))

pub search-preserved : goal.search-preserved
search-preserved c =
    let text = c.args.text.now in
    let opening = c.args.opening.now in
    let before = none_opened text opening _ _ _ c.search.invariant.1 (sym (rw c.new-tag.ensures at c.in-Some.ensures.value)) in
    (omega (arith, c.in-Some.ensures.within, ap length c.new-tag.ensures), one_more text opening _ before (sym c.if-is_name_end.ensures))

pub returns : goal.returns
returns c = sym (has_opening-false c.args.text.now c.args.opening.now _ c.search.invariant.1 (sym (rw c.new-tag.ensures at c.in_default.ensures.value)))
