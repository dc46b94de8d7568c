use Rattle.std.proofs.Common.{rules}
use Rattle.plain_data.proofs.lists.Listed.new.Goals as goal

pub returns : goal.returns
returns g c = search rules
