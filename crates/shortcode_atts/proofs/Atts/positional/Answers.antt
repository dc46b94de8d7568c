use Rattle.std.proofs.Common.{rules}
use Rattle.shortcode_atts.proofs.Atts.positional.Goals as goal

pub returns : goal.returns
returns c = search rules
