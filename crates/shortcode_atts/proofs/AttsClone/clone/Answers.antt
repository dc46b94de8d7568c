use Rattle.std.proofs.Common.{◌∙◌}
use Rattle.shortcode_atts.proofs.AttsLemmas.{map-copies, map-pair_copies}
use Rattle.shortcode_atts.proofs.AttsClone.clone.Goals as goal

pub returns : goal.returns
returns c =
    let pairs = map-pair_copies c.self.inside.pairs.entries c.in_ok-pairs.pairs.entries c.in_ok-pairs.ensures.cases in
    let values = map-copies c.self.inside.values.items c.in_ok-values.values.items c.in_ok-values.ensures.cases.0 in
    record { cases = (λ i. record { named = pairs i; positional = values i }) ∙ c.self.view_is }
