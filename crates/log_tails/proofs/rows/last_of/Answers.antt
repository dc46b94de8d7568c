use Rattle.std.proofs.Common.{◌∙◌, sym}
use Rattle.log_tails.proofs.Finding.{no_leaf, no_rows, no_pointers, last_row_of}
use Rattle.log_tails.proofs.rows.last_of.Goals.{then-page-ne-LEAF-via-then-page-ne-LEAF, then-page-ne-LEAF-via-else-page-ne-LEAF+then-count-eq0, then-page-ne-LEAF-via-else-page-ne-LEAF+else-count-eq0+then-page-count}
use Rattle.log_tails.proofs.rows.last_of.Goals as goal

pub returns-then-page-ne-LEAF-clause-last : goal.returns-then-page-ne-LEAF-clause-last
returns-then-page-ne-LEAF-clause-last c =
    let page = c.args.page.now in
    let count = c.get_u16-count in
    elim c.then-page-ne-LEAF.branch [
      | then-page-ne-LEAF-via-then-page-ne-LEAF w ↦ no_leaf page w.if-page-ne-LEAF.true
      | then-page-ne-LEAF-via-else-page-ne-LEAF+then-count-eq0 w ↦ no_rows page (sym count.ensures.value ∙ w.if-count-eq0.true)
      | then-page-ne-LEAF-via-else-page-ne-LEAF+else-count-eq0+then-page-count w ↦ no_pointers page count.result count.ensures.value w.if-page-count.true
    ]

pub returns-clause-last : goal.returns-clause-last
returns-clause-last c =
    let page = c.args.page.now in
    let count = c.get_u16-count in
    let at = c.get_u16 in
    c.number_at.ensures.row
    ∙ last_row_of page count.result at.result c.if-page-ne-LEAF.false count.ensures.value c.if-count-eq0.false c.if-page-count.false at.ensures.value
