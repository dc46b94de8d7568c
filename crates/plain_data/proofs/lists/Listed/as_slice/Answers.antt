use Rattle.std.proofs.Common.{rules}
use Rattle.plain_data.proofs.lists.Listed.as_slice.Goals as goal

pub returns : goal.returns
returns g c = search rules
