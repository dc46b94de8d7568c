-- Frames at the front of some bytes.
use Rattle.std.proofs.Common.{arith, inl, inr, ◌≡◌, ◌∙◌, ◌≤◌, ◌+◌, ◌-◌, ℕ, false, List, [], ◌∷◌, ◌++◌, length, take, drop, refl, sym, ap, subst}
use Rattle.std.specs.Prelude.{nat_lt}
use Rattle.std.specs.Int.{from_be_bytes, w32}
use Rattle.std.proofs.lemmas.Bool.{cases_Bool}
use Rattle.std.proofs.lemmas.Grind.{common_steps}
use Rattle.std.proofs.lemmas.List.{drop-append-le, length-append, length-drop, take-append-le}
use Rattle.http_streams.specs.Frame.{FrameData, FrontData, ReadsAs, after_head, front_of, most_bytes, part, too_long, whole}

-- more bytes after those that follow
abbrev longer : List ℕ → FrontData → FrontData
longer more (whole frame rest) = whole frame (rest ++ more)
longer more part = part
longer more too_long = too_long

-- a number isn't smaller if it isn't
not_less : (a b : ℕ) → nat_lt a b ≡ false → b ≤ a
not_less a b is = grind (arith, common_steps, is)

less_not : (a b : ℕ) → b ≤ a → nat_lt a b ≡ false
less_not a b is = grind (arith, common_steps, is)

-- what follows a frame
abbrev what_follows : FrontData → List ℕ
what_follows (whole frame rest) = rest
what_follows part = []
what_follows too_long = []

head_fits : (connection len : ℕ) (rest : List ℕ) (frame : FrameData) (after : List ℕ) → after_head connection len rest ≡ whole frame after → len ≤ length rest
head_fits connection len rest frame after is = elim (cases_Bool (nat_lt most_bytes len)) [
  | inl big ↦ let bad = rw big at is in absurd (cc)
  | inr small ↦ elim (cases_Bool (nat_lt (length rest) len)) [
    | inl short ↦ let bad = rw (small, short) at is in absurd (cc)
    | inr has ↦ not_less (length rest) len has
  ]
]

pub tails : (n m : ℕ) (input after rest : List ℕ) → drop n input ≡ after → drop m after ≡ rest → drop (n + m) input ≡ rest
tails n m input after rest one two =
    let whole_drop : drop (n + m) input ≡ drop m (drop n input) = grind (arith, common_steps) in
    whole_drop ∙ ap (drop m) one ∙ two

head_more : (connection len : ℕ) (rest more : List ℕ) (frame : FrameData) (after : List ℕ) → after_head connection len rest ≡ whole frame after
    → after_head connection len (rest ++ more) ≡ whole frame (after ++ more)
head_more connection len rest more frame after is = elim (cases_Bool (nat_lt most_bytes len)) [
  | inl big ↦ let bad = rw big at is in absurd (cc)
  | inr small ↦ elim (cases_Bool (nat_lt (length rest) len)) [
    | inl short ↦ let bad = rw (small, short) at is in absurd (cc)
    | inr has ↦
        let enough = not_less (length rest) len has in
        let still = less_not (length (rest ++ more)) len (let sum = length-append rest more in omega (arith, sum, enough)) in
        let got : whole (record { connection = connection; bytes = take len rest }) (drop len rest) ≡ whole frame after = rw (small, has) at is in
        rw (small, still, take-append-le len rest more enough, drop-append-le len rest more enough) (ap (longer more) got)
  ]
]

-- a whole frame is what more bytes begin with too
pub front_more : (input more : List ℕ) (frame : FrameData) (after : List ℕ) → front_of input ≡ whole frame after
    → front_of (input ++ more) ≡ whole frame (after ++ more)
front_more input more frame after is = elim (cases_Bool (nat_lt (length input) 8)) [
  | inl short ↦ let bad = rw short at is in absurd (cc)
  | inr has ↦
      let enough = not_less (length input) 8 has in
      let still = less_not (length (input ++ more)) 8 (let sum = length-append input more in omega (arith, sum, enough)) in
      let four : 4 ≤ length input = omega (arith, enough) in
      let cut = length-drop 4 input in
      let more_four : 4 ≤ length (drop 4 input) = omega (arith, cut, enough) in
      let got : after_head (from_be_bytes w32 (take 4 input)) (from_be_bytes w32 (take 4 (drop 4 input))) (drop 8 input) ≡ whole frame after = rw has at is in
      rw (
        still,
        take-append-le 4 input more four,
        drop-append-le 4 input more four,
        take-append-le 4 (drop 4 input) more more_four,
        drop-append-le 8 input more enough,
      ) (head_more _ _ (drop 8 input) more frame after got)
]

-- ---- frames one after another

pub reads_more : (input : List ℕ) (frames : List FrameData) (rest more : List ℕ) → ReadsAs input frames rest → ReadsAs (input ++ more) frames (rest ++ more)
reads_more input [] rest more is = ap (λ l. l ++ more) is
reads_more input (frame ∷ frames) rest more (after, first, later) =
    (after ++ more, front_more input more frame after first, reads_more after frames rest more later)

pub reads_then : (input : List ℕ) (frames : List FrameData) (mid : List ℕ) (later : List FrameData) (rest : List ℕ) → ReadsAs input frames mid
    → ReadsAs mid later rest → ReadsAs input (frames ++ later) rest
reads_then input [] mid later rest is then_is = subst (λ l. ReadsAs l later rest) (sym is) then_is
reads_then input (frame ∷ frames) mid later rest (after, first, next) then_is = (after, first, reads_then after frames mid later rest next then_is)

pub reads_one : (input : List ℕ) (frames : List FrameData) (mid : List ℕ) (frame : FrameData) (rest : List ℕ) → ReadsAs input frames mid
    → front_of mid ≡ whole frame rest → ReadsAs input (frames ++ frame ∷ []) rest
reads_one input frames mid frame rest is one = reads_then input frames mid (frame ∷ []) rest is (rest, one, refl)

-- ---- what is left

head_tail : (connection len : ℕ) (rest : List ℕ) (frame : FrameData) (after : List ℕ) → after_head connection len rest ≡ whole frame after
    → drop len rest ≡ after
head_tail connection len rest frame after is = elim (cases_Bool (nat_lt most_bytes len)) [
  | inl big ↦ let bad = rw big at is in absurd (cc)
  | inr small ↦ elim (cases_Bool (nat_lt (length rest) len)) [
    | inl short ↦ let bad = rw (small, short) at is in absurd (cc)
    | inr has ↦
        let got : whole (record { connection = connection; bytes = take len rest }) (drop len rest) ≡ whole frame after = rw (small, has) at is in
        ap what_follows got
  ]
]

-- a whole frame has its head at least
pub front_tail : (input : List ℕ) (frame : FrameData) (after : List ℕ) → front_of input ≡ whole frame after
    → (n : ℕ) × (8 ≤ n) × (n ≤ length input) × (drop n input ≡ after)
front_tail input frame after is = elim (cases_Bool (nat_lt (length input) 8)) [
  | inl short ↦ let bad = rw short at is in absurd (cc)
  | inr has ↦
      let enough = not_less (length input) 8 has in
      let len = from_be_bytes w32 (take 4 (drop 4 input)) in
      let got : after_head (from_be_bytes w32 (take 4 input)) len (drop 8 input) ≡ whole frame after = rw has at is in
      let fits = head_fits _ len (drop 8 input) frame after got in
      let cut = length-drop 8 input in
      (8 + len, omega (arith), omega (arith, cut, fits, enough), tails 8 len input (drop 8 input) after refl (head_tail _ len (drop 8 input) frame after got))
]

pub reads_tail : (input : List ℕ) (frames : List FrameData) (rest : List ℕ) → ReadsAs input frames rest
    → (n : ℕ) × (n ≤ length input) × (drop n input ≡ rest)
reads_tail input [] rest is = (0, omega (arith), is)
reads_tail input (frame ∷ frames) rest (after, first, later) =
    let here = front_tail input frame after first in
    let there = reads_tail after frames rest later in
    let cut = length-drop here.0 input in
    let size : length (drop here.0 input) ≡ length after = ap length here.3 in
    (here.0 + there.0, omega (arith, cut, size, here.2, there.1), tails here.0 there.0 input after rest here.3 there.2)

-- how many bytes of the input are used: its length less that of what is left
pub used_of : (input : List ℕ) (frames : List FrameData) (rest : List ℕ) → ReadsAs input frames rest
    → (length rest ≤ length input) × (drop (length input - length rest) input ≡ rest)
used_of input frames rest is =
    let tail = reads_tail input frames rest is in
    let cut = length-drop tail.0 input in
    let size : length (drop tail.0 input) ≡ length rest = ap length tail.2 in
    let count : length input - length rest ≡ tail.0 = omega (arith, cut, size, tail.1) in
    (omega (arith, cut, size), ap (λ n. drop n input) count ∙ tail.2)
