use Rattle.shortcode_scan.proofs.PieceLemmas.{pieces_of-alike}
use Rattle.shortcode_scan.proofs.names_cut_alike.Goals as goal

pub returns : goal.returns
returns c = pieces_of-alike
