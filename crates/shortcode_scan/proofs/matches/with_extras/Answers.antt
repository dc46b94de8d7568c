use Rattle.std.proofs.Common.{rules}
use Rattle.shortcode_scan.specs.Matches.{with_extras}
use Rattle.shortcode_scan.proofs.matches.with_extras.Goals as goal

pub returns-clause-piece : goal.returns-clause-piece
unfolding with_extras
returns-clause-piece c = search rules
