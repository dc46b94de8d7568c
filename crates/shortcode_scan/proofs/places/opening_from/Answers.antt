use Rattle.std.proofs.Common.{length, refl, sym}
use Rattle.std.specs.Prelude.{◌==◌, slice_index}
use Rattle.shortcode_scan.proofs.PlaceLemmas.{first_place-here}
use Rattle.shortcode_scan.proofs.places.opening_from.Goals as goal

pub returns-then-has_byte_at-clause-value : goal.returns-then-has_byte_at-clause-value
returns-then-has_byte_at-clause-value c =
    let text = c.args.text.now in
    sym (first_place-here (λ k. slice_index text k == 91) c.args.from (length text) (c.if-has_byte_at.ensures.within refl) (sym c.if-has_byte_at.ensures.value))
