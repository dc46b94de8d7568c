use Rattle.std.proofs.Common.{rules}
use Rattle.site_values.proofs.values.text_at.Goals as goal

pub returns : goal.returns
returns c = search rules
