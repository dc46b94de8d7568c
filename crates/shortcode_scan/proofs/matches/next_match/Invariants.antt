use Rattle.std.proofs.Common.{◌≤◌, ◌-◌, length}
use Rattle.shortcode_scan.specs.Memory.{Knows}
use Rattle.shortcode_scan.specs.Pieces.{NoMatch}
use Rattle.shortcode_scan.proofs.matches.next_match.Given as goal

abbrev pub invariant-search : goal.invariant-search
invariant-search l = (l.from ≤ l.at) × (l.at ≤ length l.text) × NoMatch l.names l.text l.from l.at × Knows l.names l.text l.memory

abbrev pub decreases-search : goal.decreases-search
decreases-search l = length l.text - l.at
