-- Digests of lines, one after another.
use Rattle.std.proofs.Common.{◌≡◌, ◌≢◌, ◌⊎◌, inl, inr, ℕ, zero, suc, ◌<◌, List, [], ◌∷◌, ◌++◌, length, get_or, take, true, false, refl, sym, ap, ap₂, ◌∙◌, arith, length-append}
use Rattle.std.specs.Prelude.{bytes_eq, Contains}
use Rattle.std.specs.Cmp.Lexicographic.{bytes_decides}
use Rattle.std.proofs.lemmas.Bool.{cases_Bool}
use Rattle.sha2.specs.Sha256.{sha256}
use Rattle.sha2.proofs.Facts256.{length-sha256}
use Rattle.command_log.specs.Digests.{digest_after, digest_of, digests_after, digests_of, Collide}

-- one line more
pub after_more : (digest : List ℕ) (lines : List (List ℕ)) (line : List ℕ) → digest_after digest (lines ++ line ∷ []) ≡ sha256 (digest_after digest lines ++ line)
after_more digest [] line = refl
after_more digest (l ∷ lines) line = after_more (sha256 (digest ++ l)) lines line

-- two texts with one digest are one text, or they collide
pub one_text : (a b : List ℕ) → sha256 a ≡ sha256 b → (a ≡ b) ⊎ Collide
one_text a b same =
    elim (cases_Bool (bytes_eq a b)) [
      | inl is ↦ inl ((bytes_decides a b).0 is)
      | inr isnt ↦ inr (record { one = a; other = b; differ = λ e. let clash : true ≡ false = sym ((bytes_decides a b).1 e) ∙ isnt in cc; same = same })
    ]

-- ---- lines from the last to the first

digest_back : List (List ℕ) → List ℕ
digest_back [] = sha256 []
digest_back (line ∷ lines) = sha256 (digest_back lines ++ line)

turned : List (List ℕ) → List (List ℕ)
turned [] = []
turned (line ∷ lines) = turned lines ++ line ∷ []

turned-append : (lines : List (List ℕ)) (line : List ℕ) → turned (lines ++ line ∷ []) ≡ line ∷ turned lines
unfolding turned
turned-append [] line = refl
turned-append (l ∷ lines) line = ap (λ ls. ls ++ l ∷ []) (turned-append lines line)

turned-twice : (lines : List (List ℕ)) → turned (turned lines) ≡ lines
unfolding turned
turned-twice [] = refl
turned-twice (line ∷ lines) = turned-append (turned lines) line ∙ ap (λ ls. line ∷ ls) (turned-twice lines)

of_turned : (lines : List (List ℕ)) → digest_of (turned lines) ≡ digest_back lines
unfolding turned digest_back
of_turned [] = refl
of_turned (line ∷ lines) = after_more (sha256 []) (turned lines) line ∙ ap (λ d. sha256 (d ++ line)) (of_turned lines)

of_lines : (lines : List (List ℕ)) → digest_of lines ≡ digest_back (turned lines)
of_lines lines = ap digest_of (sym (turned-twice lines)) ∙ of_turned (turned lines)

back_length : (lines : List (List ℕ)) → length (digest_back lines) ≡ 32
unfolding digest_back
back_length [] = length-sha256 []
back_length (line ∷ lines) = length-sha256 (digest_back lines ++ line)

-- texts of one length before others
split : (xs ys one other : List ℕ) → length xs ≡ length ys → xs ++ one ≡ ys ++ other → (xs ≡ ys) × (one ≡ other)
split [] [] one other long same = (refl, same)
split [] (y ∷ ys) one other long same = absurd (omega (arith, long))
split (x ∷ xs) [] one other long same = absurd (omega (arith, long))
split (x ∷ xs) (y ∷ ys) one other long same =
    let head : x ≡ y = cc in
    let tail : xs ++ one ≡ ys ++ other = cc in
    let rest = split xs ys one other (omega (arith, long)) tail in
    (ap₂ ◌∷◌ head rest.0, rest.1)

no_start : (digest line : List ℕ) → length digest ≡ 32 → digest ++ line ≢ []
no_start digest line long none = let none_long = ap length none in let both = length-append digest line in omega (arith, long, none_long, both)

same_back : (lines others : List (List ℕ)) → digest_back lines ≡ digest_back others → (lines ≡ others) ⊎ Collide
unfolding digest_back
same_back [] [] same = inl refl
same_back [] (o ∷ others) same =
    elim (one_text [] (digest_back others ++ o) same) [
      | inl is ↦ absurd (no_start (digest_back others) o (back_length others) (sym is))
      | inr collide ↦ inr collide
    ]
same_back (l ∷ lines) [] same =
    elim (one_text (digest_back lines ++ l) [] same) [
      | inl is ↦ absurd (no_start (digest_back lines) l (back_length lines) is)
      | inr collide ↦ inr collide
    ]
same_back (l ∷ lines) (o ∷ others) same =
    elim (one_text (digest_back lines ++ l) (digest_back others ++ o) same) [
      | inl is ↦
          let parts = split (digest_back lines) (digest_back others) l o (back_length lines ∙ sym (back_length others)) is in
          elim (same_back lines others parts.0) [
            | inl rest ↦ inl (ap₂ ◌∷◌ parts.1 rest)
            | inr collide ↦ inr collide
          ]
      | inr collide ↦ inr collide
    ]

pub same_digest : (lines others : List (List ℕ)) → digest_of lines ≡ digest_of others → (lines ≡ others) ⊎ Collide
same_digest lines others same =
    elim (same_back (turned lines) (turned others) (sym (of_lines lines) ∙ same ∙ of_lines others)) [
      | inl is ↦ inl (sym (turned-twice lines) ∙ ap turned is ∙ turned-twice others)
      | inr collide ↦ inr collide
    ]

-- ---- one of the digests

-- the digest at a place is that of the lines up to it
at_front : (digest : List ℕ) (lines : List (List ℕ)) (x : List ℕ) (k : ℕ) → k < length (digests_after digest lines)
    → get_or (digests_after digest lines) k x ≡ x → (n : ℕ) × (x ≡ digest_after digest (take n lines))
at_front digest [] x k low is = absurd (omega (arith, low))
at_front digest (line ∷ lines) x zero low is = (1, sym is)
at_front digest (line ∷ lines) x (suc k) low is =
    let rest = at_front (sha256 (digest ++ line)) lines x k (omega (arith, low)) is in
    (suc rest.0, rest.1)

pub front : (lines found : List (List ℕ)) → Contains (digests_of lines) (digest_of found) → ((n : ℕ) × (found ≡ take n lines)) ⊎ Collide
front lines found (k, low, is) =
    let at = at_front (sha256 []) lines (digest_of found) k low is in
    elim (same_digest found (take at.0 lines) at.1) [
      | inl same ↦ inl (at.0, same)
      | inr collide ↦ inr collide
    ]

-- ---- sealed rows that go on

-- the digests of lines after others
pub digests_more : (digest : List ℕ) (lines more : List (List ℕ)) → digests_after digest (lines ++ more)
    ≡ digests_after digest lines ++ digests_after (digest_after digest lines) more
digests_more digest [] more = refl
digests_more digest (line ∷ lines) more = ap (λ ds. sha256 (digest ++ line) ∷ ds) (digests_more (sha256 (digest ++ line)) lines more)

-- the digest of lines after others
pub after_both : (digest : List ℕ) (lines more : List (List ℕ)) → digest_after digest (lines ++ more) ≡ digest_after (digest_after digest lines) more
after_both digest [] more = refl
after_both digest (line ∷ lines) more = after_both (sha256 (digest ++ line)) lines more
