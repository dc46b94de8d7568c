use Rattle.std.proofs.Common.{rules}
use Rattle.site_values.proofs.values.kind_named.Goals as goal

pub returns-in-page : goal.returns-in-page
returns-in-page c = search rules
