-- What is left of posts that are read in steps.
use Rattle.std.proofs.Common.{◌≡◌, ◌<◌, ◌-◌, ℕ, zero, suc, nat_lt, length, List, [], ◌∷◌, ◌++◌, map, filter, take, drop}
use Rattle.std.proofs.Common.{fold, cond, Bool, true, false, Option, None, Some, Less}
use Rattle.std.proofs.Common.{refl, sym, ap, subst, ◌∙◌, arith, length-append, append-nil, append_assoc}
use Rattle.std.specs.Prelude.{slice_get}
use Rattle.std.specs.List.{AllByRecursion}
use Rattle.std.specs.List.Sorted.{IsStrictlySortedBy}
use Rattle.std.specs.Ordering.{nat_cmp}
use Rattle.std.proofs.lemmas.List.{take-append-drop}
use Rattle.std.proofs.lemmas.Bool.Decides.{nat_tests}
use Rattle.site_records.specs.declared.post.Post.{Post}
use Rattle.plain_data.specs.Texts.{Text}
use Rattle.post_tables.specs.Rows.{posts_after}
use Rattle.site_export.specs.Lines.{AppendsPosts}
use Rattle.site_export.proofs.Batches.{none_more, more}

abbrev pub after : ℕ → Post → Bool
after id p = nat_lt id p.id

abbrev last : ℕ → List Post → ℕ
last = fold (λ _ p. p.id)

abbrev AreAbove : ℕ → List Post → Type 0
AreAbove id = AllByRecursion (λ q. nat_lt id q.id ≡ true)

abbrev Rising : List Post → Type 0
Rising [] = Unit {0}
Rising (p ∷ ps) = AreAbove p.id ps × Rising ps

-- ---- numbers

less_is : (a b : ℕ) → nat_cmp a b ≡ Less → nat_lt a b ≡ true
less_is a b h = grind (arith, nat_tests)

further : (a b c : ℕ) → nat_lt a b ≡ true → nat_lt b c ≡ true → nat_lt a c ≡ true
further a b c low high = grind (arith, nat_tests)

not_back : (a b : ℕ) → nat_lt a b ≡ true → nat_lt b a ≡ false
not_back a b low = grind (arith, nat_tests)

itself : (a : ℕ) → nat_lt a a ≡ false
itself a = grind (arith, nat_tests)

-- ---- lists

above_from : (n : ℕ) (ps : List Post) → AllByRecursion (λ m. nat_cmp n m ≡ Less) (map (λ (p : Post). p.id) ps) → AreAbove n ps
above_from n [] low = tt
above_from n (p ∷ ps) low = (less_is n p.id low.0, above_from n ps low.1)

pub rising_from : (ps : List Post) → IsStrictlySortedBy nat_cmp (map (λ (p : Post). p.id) ps) → Rising ps
unfolding IsStrictlySortedBy
rising_from [] up = tt
rising_from (p ∷ ps) up = (above_from p.id ps up.0, rising_from ps up.1)

taken : (P : Post → Type 0) (k : ℕ) (ps : List Post) → AllByRecursion P ps → AllByRecursion P (take k ps)
taken P zero ps all = tt
taken P (suc k) [] all = tt
taken P (suc k) (p ∷ ps) all = (all.0, taken P k ps all.1)

kept : (P : Post → Type 0) (f : Post → Bool) (ps : List Post) → AllByRecursion P ps → AllByRecursion P (filter f ps)
kept P f [] all = tt
kept P f (p ∷ ps) all =
    let later = kept P f ps all.1 in elim (f p) as (λ b. AllByRecursion P (cond b (p ∷ filter f ps) (filter f ps))) [ true ↦ (all.0, later) | false ↦ later ]

all_after : (a b : ℕ) (ps : List Post) → nat_lt a b ≡ true → AreAbove b ps → filter (after a) ps ≡ ps
all_after a b [] low above = refl
all_after a b (q ∷ ps) low above =
    ap (λ t. cond t (q ∷ filter (after a) ps) (filter (after a) ps)) (further a b q.id low above.0) ∙ ap (λ l. q ∷ l) (all_after a b ps low above.1)

past_all : (b : ℕ) (ps : List Post) → AreAbove b ps → filter (after b) ps ≡ ps
past_all b [] above = refl
past_all b (q ∷ ps) above = ap (λ t. cond t (q ∷ filter (after b) ps) (filter (after b) ps)) above.0 ∙ ap (λ l. q ∷ l) (past_all b ps above.1)

-- a post is not after posts with larger IDs
not_past : (a : ℕ) (p : Post) (ps : List Post) → after a p ≡ false → AreAbove p.id ps → after (last a ps) p ≡ false
not_past a p [] before above = before
not_past a p (q ∷ ps) before above = not_past q.id p ps (not_back p.id q.id above.0) above.1

none_left : (a k : ℕ) → filter (after (last a (take k []))) [] ≡ drop k []
none_left a zero = refl
none_left a (suc k) = refl

left_over : (a : ℕ) (ps : List Post) → Rising ps → (k : ℕ) → filter (after (last a (take k (filter (after a) ps)))) ps ≡ drop k (filter (after a) ps)
left_over a [] up k = none_left a k
left_over a (p ∷ ps) up k = go (after a p) refl k (left_over a ps up.1) (left_over p.id ps up.1)
  where
    rest : List Post
    rest = filter (after a) ps

    above_rest : (n : ℕ) → AreAbove p.id (take n rest)
    above_rest n = taken _ n rest (kept _ (after a) ps up.0)

    Leaves : ℕ → Type 0
    Leaves b = (n : ℕ) → filter (after (last b (take n (filter (after b) ps)))) ps ≡ drop n (filter (after b) ps)

    go : (t : Bool) → after a p ≡ t → (n : ℕ) → Leaves a → Leaves p.id
        → filter (after (last a (take n (cond t (p ∷ rest) rest)))) (p ∷ ps) ≡ drop n (cond t (p ∷ rest) rest)
    go false is n here next =
        let left : List Post = filter (after (last a (take n rest))) ps in
        ap (λ b. cond b (p ∷ left) left) (not_past a p (take n rest) is (above_rest n)) ∙ here n
    go true is zero here next = ap (λ b. cond b (p ∷ rest) rest) is
    go true is (suc m) here next =
        let left : List Post = filter (after (last p.id (take m rest))) ps in
        let step : left ≡ drop m rest = subst (λ l. filter (after (last p.id (take m l))) ps ≡ drop m l)
        (past_all p.id ps up.0 ∙ sym (all_after a p.id ps is up.0)) (next m) in
        ap (λ b. cond b (p ∷ left) left) (not_past p.id p (take m rest) (itself p.id) (above_rest m)) ∙ step

-- the last of a list
shorter : (t u : Post) (ts : List Post) (o : Option Post) → slice_get (t ∷ u ∷ ts) (length (t ∷ u ∷ ts) - 1) ≡ o → slice_get (u ∷ ts) (length (u ∷ ts) - 1) ≡ o
shorter t u ts o h =
    let two : length (t ∷ u ∷ ts) - 1 ≡ suc (length ts) = omega arith in
    let one : length (u ∷ ts) - 1 ≡ length ts = omega arith in
    ap (slice_get (u ∷ ts)) one ∙ sym (ap (slice_get (t ∷ u ∷ ts)) two) ∙ h

last_is : (a : ℕ) (ts : List Post) (q : Post) → slice_get ts (length ts - 1) ≡ Some q → last a ts ≡ q.id
last_is a [] q h = absurd cc
last_is a (t ∷ []) q h = ap (λ (o : Option Post). elim o [ Some x ↦ x.id | None ↦ 0 ]) h
last_is a (t ∷ u ∷ ts) q h = last_is t.id (u ∷ ts) q (shorter t u ts (Some q) h)

some_taken : (ts : List Post) (q : Post) → slice_get ts (length ts - 1) ≡ Some q → 0 < length ts
some_taken [] q h = absurd cc
some_taken (t ∷ ts) q h = omega arith

pub none_taken : (k : ℕ) (ps : List Post) → slice_get (take (suc k) ps) (length (take (suc k) ps) - 1) ≡ None → ps ≡ []
none_taken k [] h = refl
none_taken k (p ∷ ps) h = absurd (no (take k ps) p h)
  where
    no : (ts : List Post) (t : Post) → ¬ (slice_get (t ∷ ts) (length (t ∷ ts) - 1) ≡ None)
    no [] t h = cc
    no (u ∷ ts) t h = no ts u (shorter t u ts None h)

-- what comes after the last one that was read is what was not read
pub goes_on : (a k : ℕ) (ps : List Post) (q : Post) → Rising ps → slice_get (posts_after a k ps) (length (posts_after a k ps) - 1) ≡ Some q
    → posts_after a k ps ++ filter (after q.id) ps ≡ filter (after a) ps
goes_on a k ps q up h =
    let rest : List Post = filter (after a) ps in
    ap (λ n. take k rest ++ filter (after n) ps) (sym (last_is a (take k rest) q h)) ∙ ap (λ l. take k rest ++ l) (left_over a ps up k)
    ∙ take-append-drop k rest

pub fewer : (a k : ℕ) (ps : List Post) (q : Post) → Rising ps → slice_get (posts_after a k ps) (length (posts_after a k ps) - 1) ≡ Some q
    → length (filter (after q.id) ps) < length (filter (after a) ps)
fewer a k ps q up h =
    let all = ap length (goes_on a k ps q up h) in
    let sum = length-append (posts_after a k ps) (filter (after q.id) ps) in
    let some = some_taken (posts_after a k ps) q h in
    omega (arith, all, sum, some)

-- ---- reading them all: those that were read have their lines, and the others have larger IDs

pub record HasRead (all : List Post) (last_id : ℕ) (old new : List Text) : Type 0 where
  pub done : List Post
  pub split : done ++ filter (after last_id) all ≡ filter (after 0) all
  pub lines : AppendsPosts done old new

pub none_read : (all : List Post) (old : List Text) → HasRead all 0 old old
none_read all old = record { done = []; split = refl; lines = none_more old }

pub reads_on : (all : List Post) → Rising all → (a k : ℕ) (q : Post) (old mid new : List Text) → HasRead all a old mid
    → slice_get (posts_after a k all) (length (posts_after a k all) - 1) ≡ Some q → AppendsPosts (posts_after a k all) mid new → HasRead all q.id old new
reads_on all up a k q old mid new had got lines = record {
  done = had.done ++ posts_after a k all;
  split = append_assoc had.done (posts_after a k all) (filter (after q.id) all) ∙ ap (λ l. had.done ++ l) (goes_on a k all q up got) ∙ had.split;
  lines = more had.done (posts_after a k all) old mid new had.lines lines;
}

-- if no more are found, all were read
pub all_read : (all : List Post) (a k : ℕ) (old new : List Text) → HasRead all a old new
    → slice_get (posts_after a (suc k) all) (length (posts_after a (suc k) all) - 1) ≡ None
    → AppendsPosts (filter (after 0) all) old new
all_read all a k old new had none =
    let rest : filter (after a) all ≡ [] = none_taken k (filter (after a) all) none in
    subst (λ l. AppendsPosts l old new) (sym (append-nil had.done) ∙ ap (λ l. had.done ++ l) (sym rest) ∙ had.split) had.lines
