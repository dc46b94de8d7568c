use Rattle.std.proofs.Common.{◌≡◌, None, length, rules}
use Rattle.std.specs.Prelude.{◌==◌, slice_index}
use Rattle.shortcode_scan.specs.Places.{first_place}
use Rattle.shortcode_scan.proofs.OpenedLemmas.{live-unopened}
use Rattle.shortcode_scan.proofs.opens_nothing.Goals as goal

pub returns : goal.returns
returns c = λ is names.
    let text = c.args.text.now in
    let none : first_place (λ k. slice_index text k == 91) 0 (length text) ≡ None = search rules in
    live-unopened names text none
