use Rattle.shortcode_scan.proofs.PieceLemmas.{ArePiecesUpTo-match}
use Rattle.shortcode_scan.proofs.matches.push_pieces.Goals as goal

pub pieces-preserved : goal.pieces-preserved
pieces-preserved c =
    let some = c.in-Some.ensures.some in
    let before = c.in-Some.ensures.before in
    let end = c.in-Some.ensures.end in
    let within = c.in-Some.ensures.within in (
      within.2,
      rw (c.in_ok-push.ensures.items, c.in_ok-push_plain.ensures, ← end)
          (ArePiecesUpTo-match c.args.live.now c.args.bytes.now c.pieces.pieces.items c.pieces.at c.in-Some.found.start c.in-Some.found.piece within.0 before
          some c.pieces.invariant.1),
      c.in-Some.ensures.known,
    )
