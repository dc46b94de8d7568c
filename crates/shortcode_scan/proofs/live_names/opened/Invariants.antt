use Rattle.std.proofs.Common.{◌≤◌, ◌-◌, length}
use Rattle.shortcode_scan.specs.Opened.{AreOpenedBefore}
use Rattle.shortcode_scan.proofs.live_names.opened.Given as goal

abbrev pub invariant-search : goal.invariant-search
invariant-search l = (l.at ≤ length l.text) × AreOpenedBefore l.text l.at l.names.keys

abbrev pub decreases-search : goal.decreases-search
decreases-search l = length l.text - l.at
