use Rattle.shortcode_scan.proofs.PieceLemmas.{pieces_of-are, pieces_of-only}
use Rattle.shortcode_scan.proofs.one_cut.Goals as goal

pub returns-clause-pieces : goal.returns-clause-pieces
returns-clause-pieces c = pieces_of-are

pub returns-clause-only : goal.returns-clause-only
returns-clause-only c = pieces_of-only
