use Rattle.std.proofs.Common.{rules}
use Rattle.site_values.proofs.values.text_or.Goals as goal

pub returns-in-Some : goal.returns-in-Some
returns-in-Some c = search rules
