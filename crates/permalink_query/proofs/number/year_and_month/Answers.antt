use Rattle.std.proofs.Common.{rules}
use Rattle.permalink_query.proofs.number.year_and_month.Goals as goal

pub returns : goal.returns
returns c = search rules
