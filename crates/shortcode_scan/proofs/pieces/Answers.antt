use Rattle.std.proofs.Common.{subst}
use Rattle.shortcode_scan.specs.Pieces.{IsPieces}
use Rattle.shortcode_scan.proofs.PieceLemmas.{pieces_of-only}
use Rattle.shortcode_scan.proofs.SpanLemmas.{pieces_spans}
use Rattle.shortcode_scan.proofs.pieces.Goals as goal

pub returns-clause-value : goal.returns-clause-value
returns-clause-value c =
    pieces_of-only c.args.live.now c.args.text.now c.in_ok-pieces.pieces.items
    (subst (λ bytes. IsPieces c.args.live.now bytes c.in_ok-pieces.pieces.items) c.as_bytes.ensures.value c.in_ok-pieces.ensures)

pub returns-clause-spans : goal.returns-clause-spans
returns-clause-spans c =
    pieces_spans c.args.text.now c.utf8.text c.args.live.now c.in_ok-pieces.pieces.items
    (subst (λ bytes. IsPieces c.args.live.now bytes c.in_ok-pieces.pieces.items) c.as_bytes.ensures.value c.in_ok-pieces.ensures)
