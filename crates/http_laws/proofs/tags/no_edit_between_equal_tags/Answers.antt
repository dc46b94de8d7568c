use Rattle.std.proofs.Common.{arith, ap}
use Rattle.std.proofs.lemmas.List.{nil_from_length}
use Rattle.http_laws.proofs.tags.no_edit_between_equal_tags.Goals as goal

pub returns : goal.returns
returns g c = λ replied old new follows same fits.
    let counted = follows.counted fits in
    let edits = ap (λ t. t.edits) same in
    nil_from_length _ (omega (arith, counted, edits))
