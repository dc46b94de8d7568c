-- Callbacks that are found by a hash are those that have an entry.
use Rattle.std.proofs.Common.{◌≡◌, ℕ, ◌+◌, ◌<◌, ◌≤◌, Bool, true, false, true≢false, cond, not, ◌||◌, ◌&&◌, ◌∙◌, List, [], ◌∷◌, ◌++◌, filter, take, length, get_or, Option, None, Some, refl, ap, sym, subst, arith}
use Rattle.std.specs.Prelude.{◌==◌, IfSome, MatchOption}
use Rattle.std.specs.List.{list_any}
use Rattle.std.proofs.lemmas.List.Folds.{list_any-append, list_any_more}
use Rattle.std.proofs.lemmas.Bool.{eqb-true}
use Rattle.std.proofs.Math.Seq.{take-length}
use Rattle.hook_registry.specs.declared.registration.Entry.{Entry}
use Rattle.hook_registry.specs.Entries.{is_by, with_entry, is_among, AreCallbacksOf}

or_is : (a b : Bool) → cond a true b ≡ (a || b)
or_is true b = refl
or_is false b = refl

and_is : (a b : Bool) → cond a false b ≡ (not a && b)
and_is true b = refl
and_is false b = refl

or_last : (a b : Bool) → (a || b) ≡ (b || a)
or_last true true = refl
or_last true false = refl
or_last false true = refl
or_last false false = refl

or_none : (a b : Bool) → (a || b) ≡ (b || (a || false))
or_none true true = refl
or_none true false = refl
or_none false true = refl
or_none false false = refl

-- a callback is inserted, or removed, by its number
module _ (before after : List ℕ) (n x : ℕ) (n_is : n ≡ x) where
  pub inserted : ((c : ℕ) → is_among after c ≡ cond (n == c) true (is_among before c)) → (c : ℕ) → is_among after c ≡ (x == c || is_among before c)
  inserted is c = is c ∙ or_is (n == c) (is_among before c) ∙ ap (λ m. m == c || is_among before c) n_is

  pub taken : ((c : ℕ) → is_among after c ≡ cond (n == c) false (is_among before c)) → (c : ℕ) → is_among after c ≡ (not (x == c) && is_among before c)
  taken is c = is c ∙ and_is (n == c) (is_among before c) ∙ ap (λ m. not (m == c) && is_among before c) n_is

-- one more entry is read
pub read_more : (before after : List ℕ) (n c : ℕ) (es : List Entry) (i : ℕ) (e : Entry) → i < length es → e ≡ get_or es i e → n ≡ e.callback
    → is_among before c ≡ list_any (is_by c) (take i es) → is_among after c ≡ cond (n == c) true (is_among before c)
    → is_among after c ≡ list_any (is_by c) (take (i + 1) es)
read_more before after n c es i e within e_is n_is was is =
    is ∙ or_is (n == c) (is_among before c) ∙ or_last (n == c) (is_among before c) ∙ ap (λ b. b || n == c) was
    ∙ ap (λ m. list_any (is_by c) (take i es) || m == c) n_is ∙ ap (λ (x : Entry). list_any (is_by c) (take i es) || is_by c x) e_is
    ∙ sym (list_any_more (is_by c) es i e within)

-- an entry is added after the others
pub pushed : (before after : List ℕ) (others : List Entry) (new : Entry) → AreCallbacksOf before others
    → ((c : ℕ) → is_among after c ≡ (new.callback == c || is_among before c)) → AreCallbacksOf after (others ++ new ∷ [])
pushed before after others new was is c =
    is c ∙ ap (λ b. new.callback == c || b) (was c) ∙ or_none (new.callback == c) (list_any (is_by c) others)
    ∙ sym (list_any-append (is_by c) others (new ∷ []))

absorbed : (a b : Bool) → (not a && b) ≡ (not a && (a || b))
absorbed true b = refl
absorbed false b = refl

spread : (x c n : ℕ) (rest : Bool) → (n == x) ≡ false → (n == c || (not (x == c) && rest)) ≡ (not (x == c) && (n == c || rest))
spread x c n rest other = elim (x == c) as (λ b. (x == c) ≡ b → (n == c || (not b && rest)) ≡ (not b && (n == c || rest)))
    [ true ↦ λ same. ap (λ b. b || false) (subst (λ m. (n == m) ≡ false) (eqb-true x c same) other) | false ↦ λ _. refl ]
    refl

-- the callback of the entry that is removed is the only one that isn't found any more
left : (x c : ℕ) (es : List Entry) → list_any (is_by c) (filter (λ e. not (is_by x e)) es) ≡ (not (x == c) && list_any (is_by c) es)
left x c [] = elim (x == c) as (λ b. false ≡ (not b && false)) [ true ↦ refl | false ↦ refl ]
left x c (e ∷ es) =
    let rest = list_any (is_by c) es in
    let kept = filter (λ e. not (is_by x e)) es in
    elim (e.callback == x) as (λ b. (e.callback == x) ≡ b → list_any (is_by c) (cond (not b) (e ∷ kept) kept) ≡ (not (x == c) && (e.callback == c || rest))) [
      | true ↦ λ same. left x c es ∙ absorbed (x == c) rest ∙ ap (λ n. not (x == c) && (n == c || rest)) (sym (eqb-true e.callback x same))
      | false ↦ λ other. ap (λ b. e.callback == c || b) (left x c es) ∙ spread x c e.callback rest other
    ]
    refl

-- the entries without one callback's
pub removed_all : (x : ℕ) (callbacks remaining : Option (List ℕ)) (es new : List Entry) → IfSome callbacks (λ found. AreCallbacksOf found es)
    → IfSome remaining (λ after. MatchOption callbacks ⊥ (λ before. (c : ℕ) → is_among after c ≡ (not (x == c) && is_among before c)))
    → new ≡ filter (λ e. not (is_by x e)) es → IfSome remaining (λ found. AreCallbacksOf found new)
removed_all x callbacks None es new was is left_is = tt
removed_all x None (Some after) es new was is left_is = absurd is
removed_all x (Some before) (Some after) es new was is left_is = λ c.
    is c ∙ ap (λ b. not (x == c) && b) (was c) ∙ sym (left x c es) ∙ sym (ap (list_any (is_by c)) left_is)

-- an entry that takes a new count is its callback's still
recounted : (es : List Entry) (new : Entry) (c : ℕ) → list_any (is_by new.callback) es ≡ true
    → list_any (is_by c) (with_entry es new) ≡ list_any (is_by c) es
recounted [] new c there = absurd (true≢false (sym there))
recounted (e ∷ es) new c there =
    let rest = list_any (is_by new.callback) es in
    elim (e.callback == new.callback) as (λ b. (e.callback == new.callback) ≡ b
    → list_any (is_by c) (cond b (record e { accepted = new.accepted } ∷ es) (e ∷ with_entry es new)) ≡ (e.callback == c || list_any (is_by c) es)) [
      | true ↦ λ _. refl
      | false ↦ λ other. ap (λ b. e.callback == c || b) (recounted es new c (subst (λ b. (b || rest) ≡ true) other there))
    ]
    refl

pub recounted_all : (callbacks : Option (List ℕ)) (es changed : List Entry) (new : Entry) → IfSome callbacks (λ found. AreCallbacksOf found es)
    → list_any (is_by new.callback) es ≡ true → changed ≡ with_entry es new → IfSome callbacks (λ found. AreCallbacksOf found changed)
recounted_all None es changed new was there is = tt
recounted_all (Some callbacks) es changed new was there is = λ c. was c ∙ sym (recounted es new c there) ∙ sym (ap (list_any (is_by c)) is)

-- all entries are read
pub all_read : (callbacks : List ℕ) (es : List Entry) (i : ℕ) → length es ≤ i → i ≤ length es
    → ((c : ℕ) → is_among callbacks c ≡ list_any (is_by c) (take i es)) → AreCallbacksOf callbacks es
all_read callbacks es i end within is c =
    let all : i ≡ length es = omega arith in
    is c ∙ ap (λ n. list_any (is_by c) (take n es)) all ∙ ap (list_any (is_by c)) (take-length es)
