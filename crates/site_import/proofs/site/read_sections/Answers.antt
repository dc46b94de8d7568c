use Rattle.std.proofs.Common.{rules}
use Rattle.site_import.specs.Site.{records_in}
use Rattle.site_import.proofs.site.read_sections.Goals as goal

pub returns-in_err-read_templates : goal.returns-in_err-read_templates
unfolding records_in
returns-in_err-read_templates c = search rules
