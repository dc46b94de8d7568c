use Rattle.std.proofs.Common.{◌≡◌, take}
use Rattle.shortcode_scan.specs.Live.{live}
use Rattle.shortcode_scan.proofs.live_names.live_few.Given as goal

abbrev pub invariant-loop-name : goal.invariant-loop-name
invariant-loop-name l = l.found.items ≡ live (take l.name-index l.names) l.text
