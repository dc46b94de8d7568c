use Rattle.std.proofs.Common.{rules}
use Rattle.byte_io.proofs.over_std.ReadingSource.read.Goals as goal

pub returns-in-Err-clause-bytes : goal.returns-in-Err-clause-bytes
returns-in-Err-clause-bytes g c = search rules
