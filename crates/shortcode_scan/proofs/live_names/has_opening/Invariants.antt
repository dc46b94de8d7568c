use Rattle.std.proofs.Common.{◌≤◌, ◌-◌, length}
use Rattle.shortcode_scan.specs.Live.{opens_at}
use Rattle.shortcode_scan.proofs.PlaceLemmas.{NonePasses}
use Rattle.shortcode_scan.proofs.live_names.has_opening.Given as goal

abbrev pub invariant-search : goal.invariant-search
invariant-search l = (l.at ≤ length l.text) × NonePasses (opens_at l.text l.opening) 0 l.at

abbrev pub decreases-search : goal.decreases-search
decreases-search l = length l.text - l.at
