use Rattle.std.proofs.Common.{◌≡◌, drop}
use Rattle.std.specs.Prelude.{◌==◌, ◌||◌}
use Rattle.std.specs.List.{list_any}
use Rattle.shortcode_atts.proofs.values.has_special.Given as goal

abbrev pub invariant-loop-byte : goal.invariant-loop-byte
invariant-loop-byte l = list_any (λ c. c == 92 || c == 60) (drop l.byte-index l.text) ≡ list_any (λ c. c == 92 || c == 60) l.text
