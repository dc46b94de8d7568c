use Rattle.std.proofs.Common.{◌≡◌, Some, None, length, refl, rules}
use Rattle.std.specs.Prelude.{◌==◌, slice_index}
use Rattle.shortcode_scan.specs.Places.{first_place}
use Rattle.shortcode_scan.specs.Matches.{bracket_from}
use Rattle.shortcode_scan.proofs.PlainLemmas.{ends_none-unopened, ends_none-unended, ends_none-is, plain-unopened, plain-unended}
use Rattle.shortcode_scan.proofs.is_plain.Goals as goal

pub returns-in-Some-clause-brackets : goal.returns-in-Some-clause-brackets
returns-in-Some-clause-brackets c =
    let text = c.args.text.now in
    let start = c.in-Some.open in
    let first : first_place (λ k. slice_index text k == 91) 0 (length text) ≡ Some start = search rules in
    let ending : bracket_from text start ≡ c.bracket_from.result = search rules in (
      λ is. let none : bracket_from text start ≡ None = search rules in ends_none-unended text start first none,
      λ ends_none. let none : c.bracket_from.result ≡ None = ends_none-is text start first ends_none c.bracket_from.result ending in search rules,
    )

pub returns-in-Some-clause-whole : goal.returns-in-Some-clause-whole
returns-in-Some-clause-whole c = λ is.
    let text = c.args.text.now in
    let start = c.in-Some.open in
    let first : first_place (λ k. slice_index text k == 91) 0 (length text) ≡ Some start = search rules in
    let none : bracket_from text start ≡ None = search rules in
    plain-unended text start first none

pub returns-in-None-clause-brackets : goal.returns-in-None-clause-brackets
returns-in-None-clause-brackets c =
    let text = c.args.text.now in
    let none : first_place (λ k. slice_index text k == 91) 0 (length text) ≡ None = search rules in
    (λ is. ends_none-unopened text none, λ ends_none. refl)

pub returns-in-None-clause-whole : goal.returns-in-None-clause-whole
returns-in-None-clause-whole c = λ is.
    let text = c.args.text.now in
    let none : first_place (λ k. slice_index text k == 91) 0 (length text) ≡ None = search rules in
    plain-unopened text none
