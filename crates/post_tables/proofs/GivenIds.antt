-- IDs of posts are those that were given.
use Rattle.std.proofs.Common.{◌≡◌, ◌≤◌, ℕ, ◌+◌, List, [], ◌∷◌, filter, max, Bool, true, false, cond, ◌==◌, nat_lt, refl, arith}
use Rattle.std.proofs.lemmas.Bool.Decides.{nat_tests}
use Rattle.site_records.specs.declared.post.Post.{Post}
use Rattle.post_tables.specs.Rows.{with_post, has_post, PostEdit, edited_post, edited_posts}
use Rattle.post_tables.specs.Stored.{AreGiven}

raised : (ps : List Post) (m n : ℕ) → m ≤ n → AreGiven ps m → AreGiven ps n
raised [] m n le given = tt
raised (p ∷ ps) m n le given = let first = given.0 in (omega arith, raised ps m n le given.1)

pub more_given : (p : Post) (ps : List Post) (n : ℕ) → AreGiven ps n → AreGiven (with_post p ps) (max n p.id)
more_given p [] n given = (omega arith, tt)
more_given p (q ∷ ps) n given =
    let first = given.0 in
    let here : q.id ≤ max n p.id = omega arith in
    let own : p.id ≤ max n p.id = omega arith in
    let as_before = raised ps n (max n p.id) (omega arith) given.1 in
    elim (nat_lt q.id p.id) as (λ b. AreGiven (cond b (q ∷ with_post p ps) (p ∷ q ∷ ps)) (max n p.id))
    [ true ↦ (here, more_given p ps n given.1) | false ↦ (own, (here, as_before)) ]

pub some_given : (f : Post → Bool) (ps : List Post) (n : ℕ) → AreGiven ps n → AreGiven (filter f ps) n
some_given f [] n given = tt
some_given f (p ∷ ps) n given =
    let rest = some_given f ps n given.1 in
    elim (f p) as (λ b. AreGiven (cond b (p ∷ filter f ps) (filter f ps)) n) [ true ↦ (given.0, rest) | false ↦ rest ]

pub edited_given : (id : ℕ) (e : PostEdit) (ps : List Post) (n : ℕ) → AreGiven ps n → AreGiven (edited_posts id e ps) n
edited_given id e [] n given = tt
edited_given id e (p ∷ ps) n given =
    let rest = edited_given id e ps n given.1 in
    elim (p.id == id) as (λ b. AreGiven (cond b (edited_post e p) p ∷ edited_posts id e ps) n) [ true ↦ (given.0, rest) | false ↦ (given.0, rest) ]

-- the ID after the largest isn't one of them
pub next_is_free : (ps : List Post) (n : ℕ) → AreGiven ps n → has_post (n + 1) ps ≡ false
next_is_free [] n given = refl
next_is_free (p ∷ ps) n given =
    let first = given.0 in
    let other : (p.id == n + 1) ≡ false = grind (arith, nat_tests) in
    rw other (next_is_free ps n given.1)
