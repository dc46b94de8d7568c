-- Lemmas on writes that took a part of some bytes.
use Rattle.std.proofs.Common.{◌≡◌, ℕ, suc, ◌<◌, List, [], ◌∷◌, ◌++◌, ◌∙◌, Option, sym, length, take, drop, get_or, ap, append_assoc, append-nil, flat_map}
use Rattle.std.proofs.lemmas.Grind.{flat_map-append}
use Rattle.std.proofs.Math.Seq.{split_at}
use Rattle.std.proofs.KnownBytes.{Appends-trans}
use Rattle.std.specs.Io.KnownBytes.{Appends}
use Rattle.byte_io.specs.Known.{AppendsFront, Gathers}

-- bytes that were written whole, and then a part of the next
pub AppendsFront-after : (a b c : Option (List ℕ)) (xs ys zs all : List ℕ) → Appends a b xs → AppendsFront b c ys → xs ++ (ys ++ zs) ≡ all
    → AppendsFront a c all
AppendsFront-after a b c xs ys zs all done part e = record {
  taken = xs ++ part.taken;
  rest = part.rest ++ zs;
  whole = append_assoc xs part.taken (part.rest ++ zs) ∙ ap (λ l. xs ++ l) (sym (append_assoc part.taken part.rest zs) ∙ ap (λ l. l ++ zs) part.whole) ∙ e;
  appends = Appends-trans _ _ _ _ _ done part.appends;
}

-- a part of bytes that others follow
pub AppendsFront-more : (a b : Option (List ℕ)) (shown held piece : List ℕ) → shown ≡ held → AppendsFront a b shown → AppendsFront a b (held ++ piece)
AppendsFront-more a b shown held piece e part = record {
  taken = part.taken;
  rest = part.rest ++ piece;
  whole = sym (append_assoc part.taken part.rest piece) ∙ ap (λ l. l ++ piece) (part.whole ∙ e);
  appends = part.appends;
}

-- the pieces before one, that one, and the pieces after it
pub flat_map-split : {X : Type 0} (f : X → List ℕ) (xs : List X) (i : ℕ) (d : X) → i < length xs
    → flat_map f (take i xs) ++ (f (get_or xs i d) ++ flat_map f (drop (suc i) xs)) ≡ flat_map f xs
flat_map-split f xs i d h = sym (flat_map-append f (take i xs) (get_or xs i d ∷ drop (suc i) xs)) ∙ ap (flat_map f) (sym (split_at xs i d h))

-- what was gathered was written, and then the piece
pub Gathers-none : (a b c : Option (List ℕ)) (held left piece : List ℕ) → left ≡ [] → Appends a b held → Appends b c piece → Gathers a c held left piece
Gathers-none a b c held left piece e first then = record {
  taken = held ++ piece;
  whole = ap (λ l. (held ++ piece) ++ l) e ∙ append-nil (held ++ piece);
  appends = Appends-trans _ _ _ _ _ first then;
}

-- one more piece is gathered
pub gathered_whole : (taken more held later so_far piece all : List ℕ) → taken ++ held ≡ so_far → more ++ later ≡ held ++ piece → so_far ++ piece ≡ all
    → (taken ++ more) ++ later ≡ all
gathered_whole taken more held later so_far piece all e f h =
    append_assoc taken more later ∙ ap (λ l. taken ++ l) f ∙ sym (append_assoc taken held piece) ∙ ap (λ l. l ++ piece) e ∙ h

-- the pieces before one, that one, and the pieces after it, if some bytes are still gathered
pub pieces_whole : (taken held so_far piece later all : List ℕ) → taken ++ held ≡ so_far → so_far ++ (piece ++ later) ≡ all
    → taken ++ ((held ++ piece) ++ later) ≡ all
pieces_whole taken held so_far piece later all e h =
    ap (λ l. taken ++ l) (append_assoc held piece later) ∙ sym (append_assoc taken held (piece ++ later)) ∙ ap (λ l. l ++ (piece ++ later)) e ∙ h

-- what is gathered is the last that is written
pub last_gathered : (taken held shown all : List ℕ) → shown ≡ held → taken ++ held ≡ all → taken ++ (shown ++ []) ≡ all
last_gathered taken held shown all e h = ap (λ l. taken ++ l) (append-nil shown ∙ e) ∙ h
