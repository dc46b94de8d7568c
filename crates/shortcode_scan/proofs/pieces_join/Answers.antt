use Rattle.shortcode_scan.proofs.PieceLemmas.{joined-pieces}
use Rattle.shortcode_scan.proofs.pieces_join.Goals as goal

pub returns : goal.returns
returns c = joined-pieces
