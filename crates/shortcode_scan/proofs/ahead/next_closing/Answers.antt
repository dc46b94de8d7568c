use Rattle.std.proofs.Common.{refl}
use Rattle.shortcode_scan.proofs.MemoryLemmas.{tag_covered, tag_within}
use Rattle.shortcode_scan.proofs.ahead.next_closing.Goals as goal

pub returns-then-covers-clause-value : goal.returns-then-covers-clause-value
returns-then-covers-clause-value c =
    tag_covered c.args.text.now c.args.tag.now c.args.ahead.now.from c.args.from c.args.ahead.now.next (c.if-covers.ensures refl) c.requires.known

pub returns-then-covers-clause-within : goal.returns-then-covers-clause-within
returns-then-covers-clause-within c =
    tag_within c.args.text.now c.args.tag.now c.args.from c.args.ahead.now.next
    (tag_covered c.args.text.now c.args.tag.now c.args.ahead.now.from c.args.from c.args.ahead.now.next (c.if-covers.ensures refl) c.requires.known)
