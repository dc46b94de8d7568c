use Rattle.std.proofs.Common.{rules}
use Rattle.site_edits.proofs.imports.add_known.Goals as goal

pub returns-then-not-are_known : goal.returns-then-not-are_known
returns-then-not-are_known g c = search rules
