use Rattle.std.proofs.Common.{rules}
use Rattle.site_values.proofs.values.option_named.Goals as goal

pub returns-then-contains : goal.returns-then-contains
returns-then-contains c = search rules
