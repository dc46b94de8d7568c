use Rattle.std.proofs.Common.{rules}
use Rattle.site_edits.specs.Templates.{set_template}
use Rattle.site_edits.proofs.templates.set_template.Goals as goal

pub returns : goal.returns
unfolding set_template
returns c = search rules
