use Rattle.std.proofs.Common.{refl}
use Rattle.shortcode_scan.proofs.MemoryLemmas.{bracket_covered, bracket_within}
use Rattle.shortcode_scan.proofs.ahead.next_bracket.Goals as goal

pub returns-then-covers-clause-value : goal.returns-then-covers-clause-value
returns-then-covers-clause-value c =
    bracket_covered c.args.text.now c.args.ahead.now.from c.args.from c.args.ahead.now.next (c.if-covers.ensures refl) c.requires.known

pub returns-then-covers-clause-within : goal.returns-then-covers-clause-within
returns-then-covers-clause-within c =
    bracket_within c.args.text.now c.args.from c.args.ahead.now.next
    (bracket_covered c.args.text.now c.args.ahead.now.from c.args.from c.args.ahead.now.next (c.if-covers.ensures refl) c.requires.known)
