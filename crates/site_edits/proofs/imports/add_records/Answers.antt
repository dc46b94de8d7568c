use Rattle.std.proofs.Common.{rules}
use Rattle.site_edits.proofs.imports.add_records.Goals as goal

pub returns-in-Ok : goal.returns-in-Ok
returns-in-Ok c = search rules

pub returns-in-Err-DuplicateId : goal.returns-in-Err-DuplicateId
returns-in-Err-DuplicateId c = search rules

pub returns-in-Err : goal.returns-in-Err
returns-in-Err c = search rules
