use Rattle.std.proofs.Common.{rules}
use Rattle.site_program.proofs.site.Site.new.Goals as goal

pub returns-clause-calls : goal.returns-clause-calls
returns-clause-calls g c = search rules
