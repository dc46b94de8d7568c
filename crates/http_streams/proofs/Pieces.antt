-- Pieces of what a connection sends.
use Rattle.std.proofs.Common.{◌≡◌, ◌≤◌, ◌∙◌, ℕ, List, [], ◌∷◌, ◌++◌, length, take, drop, sym, ap, append_assoc, append-nil, flat_map, take-append-drop}
use Rattle.std.proofs.lemmas.Grind.{flat_map-append}
use Rattle.std.proofs.lemmas.List.{length-take-le, take-append-le}
use Rattle.http_streams.specs.Deeds.{piece_bytes, pieces_bytes}

-- one more piece
pub pieces_more : (pieces : List (List ℕ)) (piece : List ℕ) → flat_map (λ p. p) (pieces ++ piece ∷ []) ≡ flat_map (λ p. p) pieces ++ piece
pieces_more pieces piece = flat_map-append (λ p. p) pieces (piece ∷ []) ∙ ap (λ l. flat_map (λ p. p) pieces ++ l) (append-nil piece)

pub output_more : (number : ℕ) (pieces : List (List ℕ)) (piece : List ℕ)
    → pieces_bytes number (pieces ++ piece ∷ []) ≡ pieces_bytes number pieces ++ piece_bytes number piece
output_more number pieces piece =
    flat_map-append (piece_bytes number) pieces (piece ∷ []) ∙ ap (λ l. pieces_bytes number pieces ++ l) (append-nil (piece_bytes number piece))

-- what was there, then the pieces before, then one more
pub after_more : (old mid new before piece : List ℕ) → mid ≡ old ++ before → new ≡ mid ++ piece → new ≡ old ++ (before ++ piece)
after_more old mid new before piece one two = two ∙ ap (λ l. l ++ piece) one ∙ append_assoc old before piece

-- the front of the first stretch that waits
pub front_piece : (m : ℕ) (chunk pending : List ℕ) → take (length chunk) pending ≡ chunk → m ≤ length chunk → take (length (take m chunk)) pending ≡ take m chunk
front_piece m chunk pending front fits =
    ap (λ n. take n pending) (length-take-le m chunk fits)
    ∙ ap (take m) (sym (take-append-drop (length chunk) pending))
    ∙ ap (λ l. take m (l ++ drop (length chunk) pending)) front
    ∙ take-append-le m chunk (drop (length chunk) pending) fits
