use Rattle.std.proofs.Common.{rules}
use Rattle.site_import.proofs.templates.read_tree.Goals as goal

pub returns-in-Err-BadTemplate-clause-err : goal.returns-in-Err-BadTemplate-clause-err
returns-in-Err-BadTemplate-clause-err c = search rules
