use Rattle.std.proofs.Common.{rules}
use Rattle.plain_data.proofs.names.has_name_length.Goals as goal

pub returns-then-some : goal.returns-then-some
returns-then-some c = search rules
