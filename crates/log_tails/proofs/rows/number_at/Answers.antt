use Rattle.std.proofs.Common.{◌∙◌, sym, inl, inr}
use Rattle.log_tails.proofs.Finding.{cut_in_first, cut_in_second, no_number, a_number}
use Rattle.log_tails.proofs.rows.number_at.Goals.{then-number-eq0-via-then-number-eq0, then-number-eq0-via-else-number-eq0+then-number}
use Rattle.log_tails.proofs.rows.number_at.Goals as goal

pub returns-in_err-len-clause-row : goal.returns-in_err-len-clause-row
returns-in_err-len-clause-row c = c.from_residual.ensures ∙ sym (cut_in_first c.args.page.now c.args.at c.in_err-len.ensures)

pub returns-in_err-number-clause-row : goal.returns-in_err-number-clause-row
returns-in_err-number-clause-row c =
    let first = c.in_ok-len.ensures in
    c.from_residual-in_err-number.ensures ∙ sym (cut_in_second c.args.page.now c.args.at c.in_ok-len.len first.1 first.2 c.in_err-number.ensures)

pub returns-then-number-eq0-clause-row : goal.returns-then-number-eq0-clause-row
returns-then-number-eq0-clause-row c =
    no_number c.args.page.now c.args.at c.in_ok-len.len c.in_ok-number.number c.in_ok-len.ensures.1 c.in_ok-number.ensures.0
    (elim c.then-number-eq0.branch [
      | then-number-eq0-via-then-number-eq0 w ↦ inl w.if-number-eq0.true
      | then-number-eq0-via-else-number-eq0+then-number w ↦ inr w.if-number.true
    ])

pub returns-clause-row : goal.returns-clause-row
returns-clause-row c =
    let next = c.in_ok-number.ensures in
    a_number c.args.page.now c.args.at c.in_ok-len.len c.in_ok-number.number c.in_ok-number.field-0-1 c.in_ok-len.ensures.1 next.0 next.1 next.2
    c.if-number-eq0.false c.if-number.false
