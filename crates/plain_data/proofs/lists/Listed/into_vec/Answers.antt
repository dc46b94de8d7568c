use Rattle.std.proofs.Common.{rules}
use Rattle.plain_data.proofs.lists.Listed.into_vec.Goals as goal

pub returns : goal.returns
returns g c = search rules
