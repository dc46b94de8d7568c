use Rattle.std.proofs.Common.{rules}
use Rattle.plain_data.proofs.names.TagName.read.Goals as goal

pub returns-in_err-from_str-clause-bad_name : goal.returns-in_err-from_str-clause-bad_name
returns-in_err-from_str-clause-bad_name c = search rules

pub invariant_of-result : goal.invariant_of-result
invariant_of-result c = search rules

pub returns-clause-bad_name : goal.returns-clause-bad_name
returns-clause-bad_name c = search rules
