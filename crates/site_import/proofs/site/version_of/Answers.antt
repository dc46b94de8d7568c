use Rattle.std.proofs.Common.{rules}
use Rattle.site_import.proofs.site.version_of.Goals as goal

pub returns-then-contains : goal.returns-then-contains
returns-then-contains c = search rules
