-- Posts that are added by ascending ID.
use Rattle.std.proofs.Common.{◌≡◌, inl, inr, ℕ, ◌≤◌, ◌<◌, ◌==◌, List, [], ◌∷◌, ◌++◌, Bool, true, false, refl, sym, ap, ◌∙◌, arith, append-nil}
use Rattle.std.specs.Prelude.{◌||◌, max}
use Rattle.std.specs.List.{AllByRecursion}
use Rattle.std.proofs.lemmas.Bool.{cases_Bool, lt-ltb, ne_eqb, eq-eqb, eqb-true}
use Rattle.std.proofs.lemmas.List.{append_assoc}
use Rattle.site_records.specs.declared.post.Post.{Post}
use Rattle.post_tables.specs.Rows.{PostEdit, with_post, with_posts, largest_of, has_post, are_new, edited_post, edited_posts}
use Rattle.site_laws.specs.Stored.{IsPost, RisesFrom}

or_true : (b : Bool) → (b || true) ≡ true
or_true true = refl
or_true false = refl

-- each has an ID up to this one
abbrev pub UpTo : ℕ → List Post → Type 0
UpTo n ps = AllByRecursion (λ p. p.id ≤ n) ps

pub more_up : (n m : ℕ) (ps : List Post) → n ≤ m → UpTo n ps → UpTo m ps
more_up n m [] h all = tt
more_up n m (p ∷ ps) h all = (let first = all.0 in omega (arith, h, first), more_up n m ps h all.1)

pub up_append : (n : ℕ) (ps qs : List Post) → UpTo n ps → UpTo n qs → UpTo n (ps ++ qs)
up_append n [] qs a b = b
up_append n (p ∷ ps) qs a b = (a.0, up_append n ps qs a.1 b)

-- ---- one more at the end

pub put_last : (n : ℕ) (p : Post) (ps : List Post) → UpTo n ps → n < p.id → with_post p ps ≡ ps ++ p ∷ []
put_last n p [] all h = refl
put_last n p (q ∷ qs) all h =
    let first = all.0 in
    rw (lt-ltb q.id p.id (omega (arith, h, first))) (ap (λ l. q ∷ l) (put_last n p qs all.1 h))

none_up : (n id : ℕ) (ps : List Post) → UpTo n ps → n < id → has_post id ps ≡ false
none_up n id [] all h = refl
none_up n id (q ∷ qs) all h =
    let first = all.0 in
    rw (ne_eqb q.id id (λ e. omega (arith, h, first, e))) (none_up n id qs all.1 h)

none_above : (n id : ℕ) (ps : List Post) → RisesFrom n ps → id ≤ n → has_post id ps ≡ false
none_above n id [] rises h = refl
none_above n id (q ∷ qs) rises h =
    let first = rises.0 in
    rw (ne_eqb q.id id (λ e. omega (arith, h, first, e))) (none_above q.id id qs rises.1 (omega (arith, h, first)))

-- ---- some more

pub put_lasts : (n : ℕ) (ps before : List Post) → UpTo n before → RisesFrom n ps → with_posts ps before ≡ before ++ ps
put_lasts n [] before all rises = sym (append-nil before)
put_lasts n (p ∷ ps) before all rises =
    ap (with_posts ps) (put_last n p before all rises.0)
    ∙ put_lasts p.id ps (before ++ p ∷ []) (up_append p.id before (p ∷ []) (more_up n p.id before (let first = rises.0 in omega (arith, first)) all) (omega arith, tt)) rises.1
    ∙ append_assoc before (p ∷ []) ps

pub new_lasts : (n : ℕ) (ps before : List Post) → UpTo n before → RisesFrom n ps → are_new ps before ≡ true
new_lasts n [] before all rises = refl
new_lasts n (p ∷ ps) before all rises =
    rw (none_up n p.id before all rises.0, none_above p.id p.id ps rises.1 (omega arith))
    (new_lasts p.id ps before (more_up n p.id before (let first = rises.0 in omega (arith, first)) all) rises.1)

-- ---- the last one edited

pub edit_none : (n id : ℕ) (e : PostEdit) (ps : List Post) → UpTo n ps → n < id → edited_posts id e ps ≡ ps
edit_none n id e [] all h = refl
edit_none n id e (q ∷ qs) all h =
    let first = all.0 in
    rw (ne_eqb q.id id (λ same. omega (arith, h, first, same))) (ap (λ l. q ∷ l) (edit_none n id e qs all.1 h))

pub edited_last : (n : ℕ) (e : PostEdit) (p : Post) (ps : List Post) → UpTo n ps → n < p.id → edited_posts p.id e (ps ++ p ∷ []) ≡ ps ++ edited_post e p ∷ []
edited_last n e p [] all h = rw (eq-eqb p.id p.id refl) refl
edited_last n e p (q ∷ qs) all h =
    let first = all.0 in
    rw (ne_eqb q.id p.id (λ same. omega (arith, h, first, same))) (ap (λ l. q ∷ l) (edited_last n e p qs all.1 h))

pub has_last : (p : Post) (ps : List Post) → has_post p.id (ps ++ p ∷ []) ≡ true
has_last p [] = rw (eq-eqb p.id p.id refl) refl
has_last p (q ∷ qs) = ap (λ b. (q.id == p.id) || b) (has_last p qs) ∙ or_true (q.id == p.id)

-- ---- the largest ID

pub largest_stays : (n : ℕ) (ps : List Post) → UpTo n ps → largest_of ps n ≡ n
largest_stays n [] all = refl
largest_stays n (p ∷ ps) all =
    let first = all.0 in
    let same : max n p.id ≡ n = omega (arith, first) in
    ap (largest_of ps) same ∙ largest_stays n ps all.1

pub largest_reached : (n m : ℕ) (ps : List Post) → n ≤ m → UpTo m ps → has_post m ps ≡ true → largest_of ps n ≡ m
largest_reached n m [] h all there = absurd (let clash : false ≡ true = there in cc)
largest_reached n m (p ∷ ps) h all there =
    elim (cases_Bool (p.id == m)) [
      | inl here ↦
          let is : p.id ≡ m = eqb-true p.id m here in
          let same : max n p.id ≡ m = omega (arith, h, is) in
          ap (largest_of ps) same ∙ largest_stays m ps all.1
      | inr other ↦
          let first = all.0 in
          largest_reached (max n p.id) m ps (omega (arith, h, first)) all.1 (sym (ap (λ b. b || has_post m ps) other) ∙ there)
    ]

pub largest_append : (n : ℕ) (ps qs : List Post) → largest_of (ps ++ qs) n ≡ largest_of qs (largest_of ps n)
largest_append n [] qs = refl
largest_append n (p ∷ ps) qs = largest_append (max n p.id) ps qs

-- ---- posts in two stretches

pub all_first : (ps qs : List Post) → AllByRecursion IsPost (ps ++ qs) → AllByRecursion IsPost ps
all_first [] qs all = tt
all_first (p ∷ ps) qs all = (all.0, all_first ps qs all.1)

pub all_later : (ps qs : List Post) → AllByRecursion IsPost (ps ++ qs) → AllByRecursion IsPost qs
all_later [] qs all = all
all_later (p ∷ ps) qs all = all_later ps qs all.1

-- the last ID, or what the IDs are above
abbrev pub last_of : ℕ → List Post → ℕ
last_of n [] = n
last_of n (p ∷ ps) = last_of p.id ps

pub rise_first : (n : ℕ) (ps qs : List Post) → RisesFrom n (ps ++ qs) → RisesFrom n ps
rise_first n [] qs rises = tt
rise_first n (p ∷ ps) qs rises = (rises.0, rise_first p.id ps qs rises.1)

pub rise_later : (n : ℕ) (ps qs : List Post) → RisesFrom n (ps ++ qs) → RisesFrom (last_of n ps) qs
rise_later n [] qs rises = rises
rise_later n (p ∷ ps) qs rises = rise_later p.id ps qs rises.1

pub last_above : (n : ℕ) (ps : List Post) → RisesFrom n ps → n ≤ last_of n ps
last_above n [] rises = omega arith
last_above n (p ∷ ps) rises = let rest = last_above p.id ps rises.1 in let first = rises.0 in omega (arith, rest, first)

pub all_up : (n : ℕ) (ps : List Post) → RisesFrom n ps → UpTo (last_of n ps) ps
all_up n [] rises = tt
all_up n (p ∷ ps) rises = (last_above p.id ps rises.1, all_up p.id ps rises.1)
