use Rattle.std.proofs.Common.{rules}
use Rattle.site_records.proofs.date.PostDate.as_str.Goals as goal

pub returns-clause-text : goal.returns-clause-text
returns-clause-text c = search rules
