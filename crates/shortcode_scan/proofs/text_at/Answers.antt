use Rattle.std.proofs.Common.{rules}
use Rattle.shortcode_scan.proofs.text_at.Goals as goal

pub returns : goal.returns
returns c = search rules
