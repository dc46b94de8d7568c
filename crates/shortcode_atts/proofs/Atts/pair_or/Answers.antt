use Rattle.std.proofs.Common.{rules}
use Rattle.shortcode_atts.proofs.Atts.pair_or.Goals as goal

pub returns : goal.returns
returns c = search rules
