use Rattle.std.proofs.Common.{rules}
use Rattle.plain_data.proofs.names.is_tag_name.Goals as goal

pub returns-then-of_length : goal.returns-then-of_length
returns-then-of_length c = search rules

pub returns-else-of_length : goal.returns-else-of_length
returns-else-of_length c = search rules
