use Rattle.std.proofs.Common.{rules}
use Rattle.byte_io.proofs.over_std.Writing.new.Goals as goal

pub returns : goal.returns
returns g c = search rules
