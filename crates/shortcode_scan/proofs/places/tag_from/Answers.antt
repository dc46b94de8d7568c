use Rattle.std.proofs.Common.{sym, Some, None}
use Rattle.shortcode_scan.proofs.PlaceLemmas.{needle_found}
use Rattle.shortcode_scan.proofs.places.tag_from.Goals as goal

pub returns-in-Some-clause-value : goal.returns-in-Some-clause-value
returns-in-Some-clause-value c = sym (needle_found c.args.text.now c.args.tag.now c.args.from c.requires.in_text (Some c.in-Some.k) c.requires.some
    c.in-Some.ensures)

pub returns-in-None-clause-value : goal.returns-in-None-clause-value
returns-in-None-clause-value c = sym (needle_found c.args.text.now c.args.tag.now c.args.from c.requires.in_text None c.requires.some c.in-None.ensures)
