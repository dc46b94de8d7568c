-- Counting the lines of a log, some at a time.
use Rattle.std.proofs.Common.{◌≡◌, ◌+◌, ◌<◌, ◌∙◌, ℕ, List, [], ◌∷◌, arith, ap, length, length-append, map, suc, sym, take, drop, take-append-drop}
use Rattle.std.proofs.lemmas.List.{length-map}

-- one batch more
pub batch_counted : {X : Type 0} (f : X → List ℕ) (items : List X) (left next : List (List ℕ)) (limit before after whole : ℕ) → map f items ≡ take limit left
    → next ≡ drop limit left → after ≡ before + length items → before + length left ≡ whole → after + length next ≡ whole
batch_counted f items left next limit before after whole took rest more counted =
    let all : length (take limit left) + length (drop limit left) ≡ length left =
    sym (length-append (take limit left) (drop limit left)) ∙ ap length (take-append-drop limit left) in
    let batch : length items ≡ length (take limit left) = sym (length-map items f) ∙ ap length took in
    omega (arith, all, batch, ap length rest, more, counted)

-- an empty batch is the last one
pub all_counted : {X : Type 0} (f : X → List ℕ) (items : List X) (left : List (List ℕ)) (limit count whole : ℕ) → map f items ≡ take (suc limit) left
    → length items < 1 → count + length left ≡ whole → count ≡ whole
all_counted f [] [] limit count whole took none counted = omega (arith, counted)
all_counted f [] (l ∷ left) limit count whole took none counted = let no : [] ≡ l ∷ take limit left = took in absurd (cc)
all_counted f (x ∷ items) left limit count whole took none counted = absurd (omega arith)
