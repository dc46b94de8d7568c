use Rattle.std.proofs.Common.{◌≡◌, ℕ, ◌<◌, List, length, get_or, map, take}
use Rattle.shortcode_scan.specs.declared.ahead.Lookahead.{Lookahead}
use Rattle.shortcode_scan.specs.Matches.{closing_tag}
use Rattle.shortcode_scan.specs.Memory.{IsAheadOf, IsNamed}
use Rattle.shortcode_scan.proofs.ahead.first_memory.Given as goal

abbrev pub invariant-loop-name : goal.invariant-loop-name
invariant-loop-name l = record {
  named : IsNamed (take l.name-index l.names);
  tags : l.tags.items ≡ map closing_tag (take l.name-index l.names);
  count : length l.closings.items ≡ l.name-index;
  closings : (k : ℕ) (n : List ℕ) (a : Lookahead) → k < l.name-index → IsAheadOf l.text (closing_tag (get_or l.names k n)) (get_or l.closings.items k a);
}
