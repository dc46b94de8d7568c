use Rattle.std.proofs.Common.{rules}
use Rattle.site_values.proofs.values.status_named.Goals as goal

pub returns-in-draft : goal.returns-in-draft
returns-in-draft c = search rules
