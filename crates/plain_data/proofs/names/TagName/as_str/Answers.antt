use Rattle.std.proofs.Common.{rules}
use Rattle.plain_data.proofs.names.TagName.as_str.Goals as goal

pub returns-clause-text : goal.returns-clause-text
returns-clause-text c = search rules

pub returns-clause-name : goal.returns-clause-name
returns-clause-name c = search rules
