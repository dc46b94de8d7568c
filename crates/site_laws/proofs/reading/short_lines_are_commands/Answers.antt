use Rattle.site_laws.proofs.Readings.{activate-is, option-is, delete-is, title-is, content-is}
use Rattle.site_laws.proofs.reading.short_lines_are_commands.Goals as goal

pub returns-clause-activate : goal.returns-clause-activate
returns-clause-activate c = activate-is

pub returns-clause-option : goal.returns-clause-option
returns-clause-option c = option-is

pub returns-clause-delete : goal.returns-clause-delete
returns-clause-delete c = delete-is

pub returns-clause-title : goal.returns-clause-title
returns-clause-title c = title-is

pub returns-clause-content : goal.returns-clause-content
returns-clause-content c = content-is
