-- What replacing each `]]>` makes of a text.
use Rattle.std.proofs.Common.{◌≡◌, ◌==◌, ◌&&◌, ◌<◌, ◌+◌, ℕ, get_or, zero, suc, List, [], ◌∷◌, ◌++◌, length, take, drop, codes, if◌then◌else◌, refl, sym, ap}
use Rattle.std.proofs.Common.{◌∙◌, ⊎_elim, append-nil, take-append-drop, length-take, length-drop, get_or-drop, subst, ◌≤◌, arith, Bor, Option, Some, None}
use Rattle.std.proofs.Common.{is_some, true, false}
use Rattle.std.proofs.lemmas.Bool.{false≢true}
use Rattle.std.proofs.lemmas.List.{get_or_append_left}
use Rattle.std.proofs.lemmas.Bool.Decides.{nat_tests}
use Rattle.memchr.specs.Find.{OccursAt, FindsNeedle, IsFirstByte, is_byte}
use Rattle.std.specs.Str.Pattern.{FindsText, LacksTextAt, HasTextAt}
use Rattle.std.specs.Str.Replace.{ReplacesMatches}
use Rattle.page_escapes.specs.Escapes.{ends_escaped, ends_escaped_after}

-- what is looked for, and what comes in its place
abbrev end : List ℕ
end = codes "]]>"

abbrev escape : List ℕ
escape = codes "]]&gt;"

-- a byte stays that isn't a `>` after `]]`
stays : (x y b : ℕ) → ((x ≡ 93) × (y ≡ 93) × (b ≡ 62) → ⊥) → (if x == 93 && y == 93 && b == 62 then codes "&gt;" else b ∷ []) ≡ b ∷ []
stays x y b other = grind (arith, nat_tests, other)

-- a front part without the start of an end stays, whatever two bytes come before it
kept : (x y : ℕ) (front back after : List ℕ)
    → ((i : ℕ) → i < length front → LacksTextAt end (x ∷ y ∷ (front ++ back)) i)
    → ((v w : ℕ) → ends_escaped_after v w back ≡ after)
    → ends_escaped_after x y (front ++ back) ≡ front ++ after
kept x y [] back after lacks escaped = escaped x y
kept x y (b ∷ front) back after lacks escaped =
    let first = stays x y b (λ same. lacks 0 (omega arith) (front ++ back) (cc (same.0, same.1, same.2))) in
    let more = kept y b front back after (λ i inside. lacks (suc i) (omega arith)) escaped in
    λ i. first i ++ more i

-- after `]>` a text is escaped as if nothing came before it
afresh : (back : List ℕ) → ends_escaped_after 93 62 back ≡ ends_escaped back
afresh [] = refl
afresh (b ∷ []) = refl
afresh (b ∷ c ∷ back) = refl

-- an end is escaped, whatever two bytes come before it
at_end : (back : List ℕ) (x y : ℕ) → ends_escaped_after x y (end ++ back) ≡ escape ++ ends_escaped back
at_end back x y =
    let first = stays x y 93 (λ same. absurd (omega (arith, same.2))) in
    let second = stays y 93 93 (λ same. absurd (omega (arith, same.2))) in
    λ i. first i ++ (second i ++ (codes "&gt;" ++ afresh back i))

-- no end begins at a byte that is put before a text
lacks_after : (s : List ℕ) (n i : ℕ) → ((k : ℕ) → k < n → LacksTextAt end s k) → i < n → LacksTextAt end (0 ∷ 0 ∷ s) i
lacks_after s n zero lacks inside = λ rest same. cc
lacks_after s n (suc zero) lacks inside = λ rest same. cc
lacks_after s n (suc (suc i)) lacks inside = lacks i (omega arith)

-- a front part without the start of an end stays
front_stays : (s front back after : List ℕ) → s ≡ front ++ back
    → ((i : ℕ) → i < length front → LacksTextAt end s i)
    → ((v w : ℕ) → ends_escaped_after v w back ≡ after)
    → ends_escaped s ≡ front ++ after
front_stays s front back after parts lacks escaped =
    let P : List ℕ → Type 0 = λ l. (i : ℕ) → i < length front → LacksTextAt end (0 ∷ 0 ∷ l) i in
    let following = subst P parts (λ i inside. lacks_after s (length front) i lacks inside) in
    ap ends_escaped parts ∙ kept 0 0 front back after following escaped

-- a text without an end stays
without : (s : List ℕ) → ((i : ℕ) → i ≤ length s → LacksTextAt end s i) → ends_escaped s ≡ s
without s lacks =
    front_stays s s [] [] (sym (append-nil s)) (λ i inside. lacks i (omega arith)) (λ v w. refl) ∙ append-nil s

-- up to its first end a text stays, and what follows the end is escaped
up_to_end : (s : List ℕ) (a b : ℕ) → ((i : ℕ) → i < a → LacksTextAt end s i) → HasTextAt end s a b
    → ends_escaped s ≡ take a s ++ (escape ++ ends_escaped (drop b s))
up_to_end s a b lacks has =
    let parts : s ≡ take a s ++ (end ++ drop b s) = sym (take-append-drop a s) ∙ ap (λ l. take a s ++ l) has.split in
    front_stays s (take a s) (end ++ drop b s) _ parts (λ i inside. lacks i (omega (arith, length-take a s))) (at_end (drop b s))

-- with each end replaced, a text is escaped
pub replaced : (n : ℕ) (p : Bor (List ℕ)) (s out : List ℕ) → p.now ≡ end
    → ReplacesMatches {P = Bor (List ℕ)} (λ q. FindsText q.now) (λ q r. r.now ≡ q.now) escape n p s out → out ≡ ends_escaped s
replaced zero p s out is made = made.1 ∙ sym (without s (subst (λ e. (i : ℕ) → i ≤ length s → LacksTextAt e s i) is made.0))
replaced (suc n) p s out is (a, b, q, rest, found, keeps, on, made) =
    let lacks = subst (λ e. (i : ℕ) → i < a → LacksTextAt e s i) is found.0 in
    let has = subst (λ e. HasTextAt e s a b) is found.1 in
    let more = ⊎_elim (λ next. replaced n q (drop b s) rest (keeps ∙ is) next.1) (λ empty. absurd (omega (arith, empty.0, has.ends))) on in
    made ∙ ap (λ l. take a s ++ (escape ++ l)) more ∙ sym (up_to_end s a b lacks has)

-- an end occurs where a text goes on with one
stands : (s rest : List ℕ) (i : ℕ) → drop i s ≡ end ++ rest → OccursAt s end i
stands s rest i same =
    record {
      fits = omega (arith, length-drop i s, ap length same);
      reads = λ j inside. sym (get_or-drop i s j 0) ∙ ap (λ l. get_or l j 0) same ∙ get_or_append_left end rest 0 j inside;
    }

-- a text in which no end is found stays
pub lacks_end : (s : List ℕ) (found : Option ℕ) → FindsNeedle s end 0 found → is_some found ≡ false → ends_escaped s ≡ s
lacks_end s None nowhere none = without s (λ i inside rest same. nowhere i (omega arith) (omega (arith, inside)) (stands s rest i same))
lacks_end s (Some k) first none = absurd (false≢true (sym none))

-- nor does an end begin where there is no bracket
pub lacks_bracket : (s : List ℕ) (found : Option ℕ) → IsFirstByte (is_byte 93) s found → is_some found ≡ false → ends_escaped s ≡ s
lacks_bracket s None nowhere none =
    without s (λ i inside rest same. let there = stands s rest i same in
    let at : i + 0 ≡ i = omega arith in
    nowhere i (omega arith) (omega (arith, there.fits)) (ap (is_byte 93) (ap (λ j. get_or s j 0) (sym at) ∙ there.reads 0 (omega arith))))
lacks_bracket s (Some k) first none = absurd (false≢true (sym none))
