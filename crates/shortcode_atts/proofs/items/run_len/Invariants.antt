use Rattle.std.proofs.Common.{◌≡◌, ◌+◌, drop}
use Rattle.std.specs.List.{prefix_len}
use Rattle.shortcode_atts.specs.Found.{belongs}
use Rattle.shortcode_atts.proofs.items.run_len.Given as goal

-- the characters so far belong to the run
abbrev pub invariant-loop-len : goal.invariant-loop-len
invariant-loop-len l = prefix_len (belongs l.run) l.text ≡ l.len + prefix_len (belongs l.run) (drop l.len l.text)
