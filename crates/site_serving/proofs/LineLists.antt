-- Lemmas on the lines of an input.
use Rattle.std.proofs.Common.{arith, ◌≡◌, ◌≢◌, inl, inr, ℕ, suc, ◌<◌, ◌≤◌, List, [], ◌∷◌, ◌++◌, ◌∙◌, false, refl, ap, length, append_assoc, flat_map}
use Rattle.std.specs.Prelude.{All, ◌==◌}
use Rattle.std.proofs.lemmas.List.Elements.{All-head, All-tail}
use Rattle.std.proofs.lemmas.Bool.{eqb-true, cases_Bool}
use Rattle.site_serving.specs.Lines.{lines_of, onto_first, IsLine, HasNoNewline, max_line, max_lines, with_newline}
use Rattle.site_serving.specs.Serving.{GoesPast}

not_newline : (b : ℕ) → b ≢ 10 → (b == 10) ≡ false
not_newline b h = elim (cases_Bool (b == 10)) [ inl e ↦ absurd (h (eqb-true b 10 e)) | inr e ↦ e ]

lines_of-other : (b : ℕ) (bytes : List ℕ) → b ≢ 10 → lines_of (b ∷ bytes) ≡ onto_first b (lines_of bytes)
unfolding lines_of
lines_of-other b bytes h = rw (not_newline b h) refl

lines_of-newline : (bytes : List ℕ) → lines_of (10 ∷ bytes) ≡ [] ∷ lines_of bytes
unfolding lines_of
lines_of-newline bytes = refl

pub lines_of-nil : lines_of [] ≡ []
unfolding lines_of
lines_of-nil = refl

pub lines_of-line : (line rest : List ℕ) → HasNoNewline line → lines_of (line ++ (10 ∷ rest)) ≡ line ∷ lines_of rest
lines_of-line [] rest h = lines_of-newline rest
lines_of-line (b ∷ line) rest h =
    lines_of-other b (line ++ (10 ∷ rest)) (All-head (λ b. b ≢ 10) b line h) ∙ ap (onto_first b) (lines_of-line line rest (All-tail (λ b. b ≢ 10) b line h))

-- the lines that end in a stretch, and those of what follows
pub lines_of-ended : (lines : List (List ℕ)) (rest : List ℕ) → All IsLine lines → lines_of (flat_map with_newline lines ++ rest) ≡ lines ++ lines_of rest
lines_of-ended [] rest h = refl
lines_of-ended (line ∷ lines) rest h =
    let first = All-head IsLine line lines h in
    let cut : (with_newline line ++ flat_map with_newline lines) ++ rest ≡ line ++ (10 ∷ (flat_map with_newline lines ++ rest)) =
    append_assoc (with_newline line) (flat_map with_newline lines) rest ∙ append_assoc line (10 ∷ []) (flat_map with_newline lines ++ rest) in
    ap lines_of cut ∙ lines_of-line line (flat_map with_newline lines ++ rest) first.one
    ∙ ap (λ ls. line ∷ ls) (lines_of-ended lines rest (All-tail IsLine line lines h))

-- a last stretch with a byte is a line
pub lines_of-last : (line : List ℕ) → HasNoNewline line → 0 < length line → lines_of line ≡ line ∷ []
lines_of-last [] h some = absurd (omega arith)
lines_of-last (b ∷ []) h some = lines_of-other b [] (All-head (λ b. b ≢ 10) b [] h) ∙ ap (onto_first b) lines_of-nil
lines_of-last (b ∷ a ∷ line) h some =
    lines_of-other b (a ∷ line) (All-head (λ b. b ≢ 10) b (a ∷ line) h)
    ∙ ap (onto_first b) (lines_of-last (a ∷ line) (All-tail (λ b. b ≢ 10) b (a ∷ line) h) (omega arith))

abbrev first_length : List (List ℕ) → ℕ
first_length [] = 0
first_length (line ∷ lines) = length line

first_length-onto : (b : ℕ) (lines : List (List ℕ)) → first_length (onto_first b lines) ≡ suc (first_length lines)
first_length-onto b [] = refl
first_length-onto b (line ∷ lines) = refl

first_length-lines_of : (front back : List ℕ) → HasNoNewline front → length front ≤ first_length (lines_of (front ++ back))
first_length-lines_of [] back h = omega arith
first_length-lines_of (b ∷ front) back h =
    let more = first_length-lines_of front back (All-tail (λ b. b ≢ 10) b front h) in
    rw (lines_of-other b (front ++ back) (All-head (λ b. b ≢ 10) b front h), first_length-onto b (lines_of (front ++ back))) (omega arith)

long_goes_past : (done lines : List (List ℕ)) → max_line < first_length lines → GoesPast done lines
long_goes_past done [] h = absurd (omega arith)
long_goes_past done (line ∷ lines) h = inr h

many_go_past : (done lines : List (List ℕ)) → length done ≡ max_lines → 0 < length lines → GoesPast done lines
many_go_past done [] e some = absurd (omega arith)
many_go_past done (line ∷ lines) e some = inl e

length-onto_first : (b : ℕ) (lines : List (List ℕ)) → 0 < length (onto_first b lines)
length-onto_first b [] = omega arith
length-onto_first b (line ∷ lines) = omega arith

some_line : (b : ℕ) (bytes : List ℕ) → 0 < length (lines_of (b ∷ bytes))
unfolding lines_of
some_line b bytes = elim (cases_Bool (b == 10)) [ inl e ↦ rw e (omega arith) | inr e ↦ rw e (length-onto_first b (lines_of bytes)) ]

-- if there is a byte, there is a line
pub lines_of-some : (bytes : List ℕ) → 0 < length bytes → 0 < length (lines_of bytes)
lines_of-some [] h = absurd (omega arith)
lines_of-some (b ∷ bytes) h = some_line b bytes

pub GoesPast-long : (done : List (List ℕ)) (front back : List ℕ) → HasNoNewline front → max_line < length front → GoesPast done (lines_of (front ++ back))
GoesPast-long done front back h long = long_goes_past done (lines_of (front ++ back)) (let fits = first_length-lines_of front back h in omega arith)

pub GoesPast-many : (done : List (List ℕ)) (bytes : List ℕ) → length done ≡ max_lines → 0 < length bytes → GoesPast done (lines_of bytes)
GoesPast-many done bytes e some = many_go_past done (lines_of bytes) e (lines_of-some bytes some)
