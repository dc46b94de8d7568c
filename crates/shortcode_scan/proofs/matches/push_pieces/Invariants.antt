use Rattle.std.proofs.Common.{◌≤◌, ◌-◌, length, List, ◌++◌}
use Rattle.shortcode_scan.specs.declared.Piece.{Piece}
use Rattle.shortcode_scan.specs.Memory.{Knows}
use Rattle.shortcode_scan.specs.Pieces.{PiecesFrom, IsPieces}
use Rattle.shortcode_scan.proofs.matches.push_pieces.Given as goal

-- whatever cuts the rest completes the pieces
abbrev pub invariant-pieces : goal.invariant-pieces
invariant-pieces l =
    (l.at ≤ length l.bytes) × ((rest : List Piece) → PiecesFrom l.live l.bytes l.at rest → IsPieces l.live l.bytes (l.pieces.items ++ rest))
    × Knows l.live l.bytes l.memory

abbrev pub decreases-pieces : goal.decreases-pieces
decreases-pieces l = length l.bytes - l.at
