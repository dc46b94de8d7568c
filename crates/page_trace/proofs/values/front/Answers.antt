use Rattle.std.proofs.Common.{◌≡◌, ◌-◌, ◌∙◌, ap, arith, take}
use Rattle.page_trace.proofs.Fronts.{front_is}
use Rattle.page_trace.proofs.values.front.Goals as goal

pub returns-clause-cut : goal.returns-clause-cut
returns-clause-cut c =
    let at = c.floor_char_boundary in
    let text = c.args.text.now in
    let same : at.result - 0 ≡ at.result = omega arith in
    c.range.ensures.value ∙ ap (λ n. take n text) same ∙ front_is text at.result at.ensures.bound at.ensures.boundary at.ensures.nearest
