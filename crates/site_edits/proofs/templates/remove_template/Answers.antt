use Rattle.std.proofs.Common.{rules}
use Rattle.site_edits.proofs.templates.remove_template.Goals as goal

pub returns-in_err-set_template : goal.returns-in_err-set_template
returns-in_err-set_template c = search rules

pub returns : goal.returns
returns c = search rules
