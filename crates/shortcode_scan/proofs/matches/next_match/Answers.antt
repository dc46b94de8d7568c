use Rattle.std.proofs.Common.{length, sym, arith}
use Rattle.shortcode_scan.proofs.PieceLemmas.{NoMatch-before, NoMatch-without, NoMatch-unended, NoMatch-join, NoMatch-one}
use Rattle.shortcode_scan.proofs.matches.next_match.Goals as goal

pub returns-in-Some-match_at-clause-before : goal.returns-in-Some-match_at-clause-before
returns-in-Some-match_at-clause-before c =
    let names = c.args.names.now in
    let text = c.args.text.now in
    let before = NoMatch-join names text _ _ _ c.search.invariant.2 (NoMatch-before names text _ _ _ (sym c.in-Some.ensures.value)) in
    rw c.in-Some-match_at.ensures.start.0 before

pub search-preserved : goal.search-preserved
search-preserved c =
    let names = c.args.names.now in
    let text = c.args.text.now in
    let none = c.in_default-match_at.ensures.none in (
      omega (arith, c.in-Some.ensures.within),
      omega (arith, c.in-Some.ensures.within),
      NoMatch-join names text _ _ _
          (NoMatch-join names text _ _ _ c.search.invariant.2 (NoMatch-before names text _ _ _ (sym c.in-Some.ensures.value)))
          (NoMatch-one names text _ none),
      c.in_default-match_at.ensures.known,
    )

pub returns-clause-none : goal.returns-clause-none
returns-clause-none c =
    let names = c.args.names.now in
    let text = c.args.text.now in
    NoMatch-join names text _ _ _ c.search.invariant.2 (NoMatch-without names text _ _ (sym c.in_default.ensures.value))

pub returns-in_err-next_bracket-clause-none : goal.returns-in_err-next_bracket-clause-none
returns-in_err-next_bracket-clause-none c =
    let names = c.args.names.now in
    let text = c.args.text.now in
    let none = NoMatch-unended names text _ _ (length text) (sym c.in-Some.ensures.value) (sym c.in_err-next_bracket.ensures.value) in
    rw c.from_residual.ensures (NoMatch-join names text _ _ _ c.search.invariant.2 none)
