use Rattle.std.proofs.Common.{sym, Some, None}
use Rattle.shortcode_scan.proofs.PlaceLemmas.{byte_found}
use Rattle.shortcode_scan.proofs.places.byte_from.Goals as goal

pub returns-in-Some-clause-value : goal.returns-in-Some-clause-value
returns-in-Some-clause-value c = sym (byte_found c.args.byte c.args.text.now c.args.from (Some c.in-Some.k) c.requires c.in-Some.ensures)

pub returns-in-None-clause-value : goal.returns-in-None-clause-value
returns-in-None-clause-value c = sym (byte_found c.args.byte c.args.text.now c.args.from None c.requires c.in-None.ensures)
