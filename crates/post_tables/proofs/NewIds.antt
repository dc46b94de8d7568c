-- That a walk over posts, which remembers the IDs before, finds whether all IDs are new.
use Rattle.std.proofs.Common.{◌≡◌, ℕ, List, [], ◌∷◌, Bool, true, false, not, ◌&&◌, ◌||◌, ◌==◌, Ordering, Less, Equal, Greater, refl, sym, ap, ◌∙◌, arith}
use Rattle.std.specs.Ordering.{is_eq, nat_cmp, match_ordering}
use Rattle.std.specs.BTreeSet.{insert_key}
use Rattle.std.proofs.lemmas.Bool.Decides.{nat_tests}
use Rattle.site_records.specs.declared.post.Post.{Post}
use Rattle.post_tables.specs.Rows.{has_post, are_new}
use Rattle.post_tables.specs.Stored.{is_met}

-- no post has an ID that was met
abbrev pub none_met : List ℕ → List Post → Bool
none_met met [] = true
none_met met (p ∷ ps) = not (is_met met p.id) && none_met met ps

pub nothing_met : (ps : List Post) → none_met [] ps ≡ true
nothing_met [] = refl
nothing_met (p ∷ ps) = nothing_met ps

same_id : (m n : ℕ) → is_eq (nat_cmp m n) ≡ (n == m)
same_id m n = grind (arith, nat_tests)

equal_id : (m n : ℕ) → nat_cmp m n ≡ Equal → m ≡ n
equal_id m n h = grind (arith, nat_tests)

swapped : (a b c : Bool) → (a || (b || c)) ≡ (b || (a || c))
swapped true true c = refl
swapped true false c = refl
swapped false b c = refl

twice : (a b : Bool) → (a || b) ≡ (a || (a || b))
twice true b = refl
twice false b = refl

-- one more ID is met
one_more : (met : List ℕ) (id x : ℕ) → is_met (insert_key nat_cmp met id) x ≡ (is_eq (nat_cmp x id) || is_met met x)
one_more [] id x = refl
one_more (k ∷ met) id x = go (nat_cmp id k) refl (one_more met id x)
  where
    go : (o : Ordering) → nat_cmp id k ≡ o → is_met (insert_key nat_cmp met id) x ≡ (is_eq (nat_cmp x id) || is_met met x)
        → is_met (match_ordering o (id ∷ k ∷ met) (k ∷ met) (k ∷ insert_key nat_cmp met id)) x ≡ (is_eq (nat_cmp x id) || is_met (k ∷ met) x)
    go Less e later = refl
    go Equal e later = twice (is_eq (nat_cmp x k)) (is_met met x)
        ∙ ap (λ n. is_eq (nat_cmp x n) || (is_eq (nat_cmp x k) || is_met met x)) (sym (equal_id id k e))
    go Greater e later = ap (λ b. is_eq (nat_cmp x k) || b) later ∙ swapped (is_eq (nat_cmp x k)) (is_eq (nat_cmp x id)) (is_met met x)

spread : (a b c d : Bool) → (not (a || b) && (c && not d)) ≡ ((not b && c) && not (a || d))
spread true true c d = refl
spread true false true d = refl
spread true false false d = refl
spread false true c d = refl
spread false false c d = refl

one_more_none : (met : List ℕ) (id : ℕ) (ps : List Post) → none_met (insert_key nat_cmp met id) ps ≡ (none_met met ps && not (has_post id ps))
one_more_none met id [] = refl
one_more_none met id (p ∷ ps) =
    rw (one_more met id p.id, same_id p.id id, flipped id p.id, one_more_none met id ps)
    (spread (p.id == id) (is_met met p.id) (none_met met ps) (has_post id ps))
  where
    flipped : (m n : ℕ) → (m == n) ≡ (n == m)
    flipped m n = grind (arith, nat_tests)

joined : (a b c : Bool) → (a && (b && c)) ≡ ((a && b) && c)
joined true b c = refl
joined false b c = refl

-- a post whose ID is new and was not met
pub next_new : (met : List ℕ) (p : Post) (ps stored : List Post) → is_met met p.id ≡ false → has_post p.id stored ≡ false
    → (none_met met (p ∷ ps) && are_new (p ∷ ps) stored) ≡ (none_met (insert_key nat_cmp met p.id) ps && are_new ps stored)
next_new met p ps stored fresh free =
    rw (fresh, free, one_more_none met p.id ps) (joined (none_met met ps) (not (has_post p.id ps)) (are_new ps stored))

pub met_before : (met : List ℕ) (p : Post) (ps stored : List Post) → is_met met p.id ≡ true → (none_met met (p ∷ ps) && are_new (p ∷ ps) stored) ≡ false
met_before met p ps stored h = rw h refl

never : (a : Bool) → (a && false) ≡ false
never true = refl
never false = refl

pub stored_before : (met : List ℕ) (p : Post) (ps stored : List Post) → has_post p.id stored ≡ true → (none_met met (p ∷ ps) && are_new (p ∷ ps) stored) ≡ false
stored_before met p ps stored h = rw h (never (none_met met (p ∷ ps)))
