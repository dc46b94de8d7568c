-- Posts that are added in their places, edited and deleted.
use Rattle.std.proofs.Common.{◌≡◌, ℕ, ◌≤◌, ◌<◌, ◌==◌, List, [], ◌∷◌, Bool, true, false, not, refl, sym, subst, ◌∙◌, arith}
use Rattle.std.specs.Prelude.{◌&&◌, max, nat_lt, filter, if◌then◌else◌}
use Rattle.std.specs.List.{AllByRecursion}
use Rattle.std.proofs.lemmas.Bool.{and_parts, or_parts, ltb-true, ltb-false, ne_eqb, eq-eqb}
use Rattle.site_records.specs.Ids.{max_id}
use Rattle.site_records.specs.declared.post.Post.{Post}
use Rattle.post_tables.specs.Rows.{PostEdit, with_post, with_posts, largest_of, has_post, are_new, edited_post, edited_posts}
use Rattle.site_laws.specs.Stored.{IsPost, RisesFrom}
use Rattle.site_laws.proofs.Posts.{UpTo, more_up}

not_equal : (a b : ℕ) → (a == b) ≡ false → a ≡ b → ⊥
not_equal a b other same = let clash : true ≡ false = sym (eq-eqb a b same) ∙ other in cc

-- ---- one more in its place

pub all_with : (P : Post → Type 0) (p : Post) (ps : List Post) → P p → AllByRecursion P ps → AllByRecursion P (with_post p ps)
all_with P p [] is all = (is, tt)
all_with P p (q ∷ qs) is all = at (all_with P p qs is all.1) (nat_lt q.id p.id)
  where
    at : AllByRecursion P (with_post p qs) → (b : Bool) → AllByRecursion P (if b then q ∷ with_post p qs else p ∷ q ∷ qs)
    at later true = (all.0, later)
    at later false = (is, all)

pub rises_with : (n : ℕ) (p : Post) (ps : List Post) → n < p.id → RisesFrom n ps → has_post p.id ps ≡ false → RisesFrom n (with_post p ps)
rises_with n p [] above rises new = (above, tt)
rises_with n p (q ∷ qs) above rises new =
    let parts = or_parts (q.id == p.id) (has_post p.id qs) new in
    at parts.0 (λ less. rises_with q.id p qs less rises.1 parts.1) (nat_lt q.id p.id) refl
  where
    at : (q.id == p.id) ≡ false → (q.id < p.id → RisesFrom q.id (with_post p qs)) → (b : Bool) → nat_lt q.id p.id ≡ b
        → RisesFrom n (if b then q ∷ with_post p qs else p ∷ q ∷ qs)
    at other later true less = (rises.0, later (ltb-true q.id p.id less))
    at other later false more =
        let low = ltb-false q.id p.id more in
        let differ : q.id ≡ p.id → ⊥ = not_equal q.id p.id other in
        (above, (omega (arith, low, differ), rises.1))

-- ---- some more

has_with : (id : ℕ) (p : Post) (ps : List Post) → has_post id ps ≡ false → (p.id == id) ≡ false → has_post id (with_post p ps) ≡ false
has_with id p [] none other = rw other refl
has_with id p (q ∷ qs) none other =
    let parts = or_parts (q.id == id) (has_post id qs) none in
    at parts.0 (has_with id p qs parts.1 other) (nat_lt q.id p.id)
  where
    at : (q.id == id) ≡ false → has_post id (with_post p qs) ≡ false → (b : Bool) → has_post id (if b then q ∷ with_post p qs else p ∷ q ∷ qs) ≡ false
    at first later true = rw first later
    at first later false = rw other none

is_not : (b : Bool) → not b ≡ true → b ≡ false
is_not true h = absurd (let clash : false ≡ true = h in cc)
is_not false h = refl

apart : (id : ℕ) (p : Post) (ps : List Post) → has_post p.id (ps) ≡ false → AllByRecursion (λ q. (p.id == q.id) ≡ false) ps
apart id p [] none = tt
apart id p (q ∷ qs) none =
    let parts = or_parts (q.id == p.id) (has_post p.id qs) none in
    (ne_eqb p.id q.id (λ same. not_equal q.id p.id parts.0 (sym same)), apart id p qs parts.1)

still_new : (p : Post) (ps stored : List Post) → AllByRecursion (λ q. (p.id == q.id) ≡ false) ps → are_new ps stored ≡ true → are_new ps (with_post p stored) ≡ true
still_new p [] stored others new = refl
still_new p (q ∷ qs) stored others new =
    let whole = and_parts (not (has_post q.id stored) && not (has_post q.id qs)) (are_new qs stored) new in
    let first = and_parts (not (has_post q.id stored)) (not (has_post q.id qs)) whole.0 in
    rw (has_with q.id p stored (is_not (has_post q.id stored) first.0) others.0, is_not (has_post q.id qs) first.1) (still_new p qs stored others.1 whole.1)

pub all_with_posts : (P : Post → Type 0) (ps stored : List Post) → AllByRecursion P ps → AllByRecursion P stored → AllByRecursion P (with_posts ps stored)
all_with_posts P [] stored new all = all
all_with_posts P (p ∷ ps) stored new all = all_with_posts P ps (with_post p stored) new.1 (all_with P p stored new.0 all)

pub rise_with_posts : (ps stored : List Post) → AllByRecursion IsPost ps → RisesFrom 0 stored → are_new ps stored ≡ true → RisesFrom 0 (with_posts ps stored)
rise_with_posts [] stored are rises new = rises
rise_with_posts (p ∷ ps) stored are rises new =
    let whole = and_parts (not (has_post p.id stored) && not (has_post p.id ps)) (are_new ps stored) new in
    let first = and_parts (not (has_post p.id stored)) (not (has_post p.id ps)) whole.0 in
    let least = are.0.id.least in
    rise_with_posts ps (with_post p stored) are.1
    (rises_with 0 p stored (omega (arith, least)) rises (is_not (has_post p.id stored) first.0))
    (still_new p ps stored (apart 0 p ps (is_not (has_post p.id ps) first.1)) whole.1)

pub up_with_posts : (n : ℕ) (ps stored : List Post) → UpTo n stored → UpTo (largest_of ps n) (with_posts ps stored)
up_with_posts n [] stored up = up
up_with_posts n (p ∷ ps) stored up =
    up_with_posts (max n p.id) ps (with_post p stored) (all_with (λ q. q.id ≤ max n p.id) p stored (omega arith) (more_up n (max n p.id) stored (omega arith) up))

pub largest_up : (n : ℕ) (ps : List Post) → n ≤ max_id → AllByRecursion IsPost ps → largest_of ps n ≤ max_id
largest_up n [] low are = low
largest_up n (p ∷ ps) low are = let most = are.0.id.most in largest_up (max n p.id) ps (omega (arith, low, most)) are.1

pub none_at : (n id : ℕ) (ps : List Post) → UpTo n ps → n < id → has_post id ps ≡ false
none_at n id [] all h = refl
none_at n id (q ∷ qs) all h =
    let first = all.0 in
    rw (ne_eqb q.id id (λ e. omega (arith, h, first, e))) (none_at n id qs all.1 h)

-- ---- fewer

pub all_filtered : (P : Post → Type 0) (test : Post → Bool) (ps : List Post) → AllByRecursion P ps → AllByRecursion P (filter test ps)
all_filtered P test [] all = tt
all_filtered P test (q ∷ qs) all = at (all_filtered P test qs all.1) (test q)
  where
    at : AllByRecursion P (filter test qs) → (b : Bool) → AllByRecursion P (if b then q ∷ filter test qs else filter test qs)
    at later true = (all.0, later)
    at later false = later

lower : (n m : ℕ) (ps : List Post) → n ≤ m → RisesFrom m ps → RisesFrom n ps
lower n m [] h rises = tt
lower n m (p ∷ ps) h rises = (let first = rises.0 in omega (arith, h, first), rises.1)

pub rises_filtered : (test : Post → Bool) (n : ℕ) (ps : List Post) → RisesFrom n ps → RisesFrom n (filter test ps)
rises_filtered test n [] rises = tt
rises_filtered test n (q ∷ qs) rises = at (rises_filtered test q.id qs rises.1) (test q)
  where
    at : RisesFrom q.id (filter test qs) → (b : Bool) → RisesFrom n (if b then q ∷ filter test qs else filter test qs)
    at later true = (rises.0, later)
    at later false = let first = rises.0 in lower n q.id (filter test qs) (omega (arith, first)) later

-- ---- one of them edited

module _ (id : ℕ) (e : PostEdit) where
  abbrev changed : Post → Post
  changed q = if q.id == id then edited_post e q else q

  same_id : (q : Post) (b : Bool) → (if b then edited_post e q else q).id ≡ q.id
  same_id q true = refl
  same_id q false = refl

  pub all_edited : (P : Post → Type 0) → ((q : Post) → P q → P (edited_post e q)) → (ps : List Post) → AllByRecursion P ps → AllByRecursion P (edited_posts id e ps)
  all_edited P each [] all = tt
  all_edited P each (q ∷ qs) all = (at (q.id == id), all_edited P each qs all.1)
    where
      at : (b : Bool) → P (if b then edited_post e q else q)
      at true = each q all.0
      at false = all.0

  pub rises_edited : (n : ℕ) (ps : List Post) → RisesFrom n ps → RisesFrom n (edited_posts id e ps)
  rises_edited n [] rises = tt
  rises_edited n (q ∷ qs) rises =
      let same = same_id q (q.id == id) in
      let first = rises.0 in
      (omega (arith, first, same), subst (λ m. RisesFrom m (edited_posts id e qs)) (sym same) (rises_edited q.id qs rises.1))
