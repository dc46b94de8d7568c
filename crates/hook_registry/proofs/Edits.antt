-- What a change makes of groups.
use Rattle.std.proofs.Common.{◌≡◌, ℕ, zero, suc, ◌<◌, ℤ, Bool, true, false, cond, not, List, [], ◌∷◌, ◌++◌, filter, set, length, get_or, Some, refl, ap}
use Rattle.std.proofs.Common.{sym, subst, ◌∙◌, arith}
use Rattle.std.specs.Prelude.{◌==◌, int_lt}
use Rattle.std.proofs.lemmas.Int.{ints}
use Rattle.std.specs.Ordering.{int_eq}
use Rattle.std.specs.List.{insert, remove}
use Rattle.std.proofs.lemmas.Bool.Decides.{Decides-int_eq, nat_tests}
use Rattle.hook_registry.specs.declared.registration.Entry.{Entry}
use Rattle.hook_registry.specs.declared.registration.Registration.{Registration}
use Rattle.hook_registry.specs.Table.{is_of, is_other, with_added}
use Rattle.hook_registry.proofs.Places.{above_away, below_away}
use Rattle.hook_registry.specs.declared.group.Group.{Group}
use Rattle.hook_registry.specs.Entries.{with_entry}
use Rattle.hook_registry.specs.Groups.{registration_at, registrations_at, registrations_of, AllAbove, HasEntry, AreGroups, IsAt, IsGap}
use Rattle.hook_registry.proofs.Groups.{all_above, each-away, Each, equal-self, not_less-self, through, held_back, all_through}

abbrev pub group_of : ℤ → List Entry → Group
group_of p es = record { priority = p; entries = es }

pub at_priority : (z p : ℤ) → int_eq z p ≡ true → z ≡ p
at_priority z p h = (Decides-int_eq z p).0 h

pub within : (p : ℤ) (gs : List Group) (at : ℕ) → IsAt p gs at → at < length gs
within p [] at h = absurd h
within p (g ∷ gs) zero h = omega arith
within p (g ∷ gs) (suc at) h = let k = within p gs at h.1 in omega arith

pub within_gap : (p : ℤ) (gs : List Group) (at : ℕ) → IsGap p gs at → at < suc (length gs)
within_gap p [] zero h = omega arith
within_gap p [] (suc at) h = absurd h
within_gap p (g ∷ gs) zero h = omega arith
within_gap p (g ∷ gs) (suc at) h = let k = within_gap p gs at h.1 in omega arith

-- ---- groups stay a plan

above-set : (q : ℤ) (gs : List Group) (at : ℕ) (g h : Group) (es : List Entry) → AllAbove q gs → h ≡ get_or gs at h → at < length gs
    → AllAbove q (set gs at (group_of h.priority es))
above-set q [] at g h es a e l = absurd (omega arith)
above-set q (x ∷ gs) zero g h es a e l = (rw (ap (λ (y : Group). y.priority) e) a.0, a.1)
above-set q (x ∷ gs) (suc at) g h es a e l = (a.0, above-set q gs at g h es a.1 e (omega arith))

-- a group with other entries
pub plan-set : (gs : List Group) (at : ℕ) (h : Group) (es : List Entry) → AreGroups gs → HasEntry es → h ≡ get_or gs at h → at < length gs
    → AreGroups (set gs at (group_of h.priority es))
plan-set [] at h es p s e l = absurd (omega arith)
plan-set (x ∷ gs) zero h es p s e l = (s, subst (λ (y : Group). AllAbove y.priority gs) (sym e) p.1, p.2)
plan-set (x ∷ gs) (suc at) h es p s e l = (p.0, above-set x.priority gs at h h es p.1 e (omega arith), plan-set gs at h es p.2 s e (omega arith))

above-insert : (q p : ℤ) (gs : List Group) (at : ℕ) (es : List Entry) → int_lt q p ≡ true → AllAbove q gs → AllAbove q (insert gs at (group_of p es))
above-insert q p [] zero es l a = (l, tt)
above-insert q p [] (suc at) es l a = (l, tt)
above-insert q p (x ∷ gs) zero es l a = (l, a)
above-insert q p (x ∷ gs) (suc at) es l a = (a.0, above-insert q p gs at es l a.1)

-- a new group
pub plan-insert : (p : ℤ) (gs : List Group) (at : ℕ) (es : List Entry) → AreGroups gs → IsGap p gs at → HasEntry es → AreGroups (insert gs at (group_of p es))
plan-insert p [] zero es h g s = (s, tt, tt)
plan-insert p [] (suc at) es h g s = absurd g
plan-insert p (x ∷ gs) zero es h g s = (s, (g, all_above p x.priority gs g h.1), h)
plan-insert p (x ∷ gs) (suc at) es h g s = (h.0, above-insert x.priority p gs at es g.0 h.1, plan-insert p gs at es h.2 g.1 s)

above-remove : (q : ℤ) (gs : List Group) (at : ℕ) → AllAbove q gs → AllAbove q (remove gs at)
above-remove q [] zero a = tt
above-remove q [] (suc at) a = tt
above-remove q (x ∷ gs) zero a = a.1
above-remove q (x ∷ gs) (suc at) a = (a.0, above-remove q gs at a.1)

-- without a group
pub plan-remove : (gs : List Group) (at : ℕ) → AreGroups gs → AreGroups (remove gs at)
plan-remove [] zero h = tt
plan-remove [] (suc at) h = tt
plan-remove (x ∷ gs) zero h = h.2
plan-remove (x ∷ gs) (suc at) h = (h.0, above-remove x.priority gs at h.1, plan-remove gs at h.2)

pub has_entry-added : (es : List Entry) (e : Entry) → HasEntry (with_entry es e)
has_entry-added [] e = tt
has_entry-added (x ∷ es) e = elim (x.callback == e.callback) as (λ b. HasEntry (cond b (record x { accepted = e.accepted } ∷ es) (x ∷ with_entry es e)))
    [ true ↦ tt | false ↦ tt ]

pub has_entry-more : (es : List Entry) (e : Entry) → HasEntry (es ++ e ∷ [])
has_entry-more [] e = tt
has_entry-more (x ∷ es) e = tt

pub has_entry-at : (gs : List Group) (at : ℕ) (h : Group) → AreGroups gs → h ≡ get_or gs at h → at < length gs → HasEntry h.entries
has_entry-at [] at h p e l = absurd (omega arith)
has_entry-at (x ∷ gs) zero h p e l = subst (λ (y : Group). HasEntry y.entries) (sym e) p.0
has_entry-at (x ∷ gs) (suc at) h p e l = has_entry-at gs at h p.2 e (omega arith)

pub has_entry-some : (es : List Entry) (n : ℕ) → length es ≡ n → (n == 0) ≡ false → HasEntry es
has_entry-some [] n l f = absurd (differ n l f)
  where
    differ : (n : ℕ) → 0 ≡ n → (n == 0) ≡ false → ⊥
    differ n l f = grind (arith, nat_tests)
has_entry-some (e ∷ es) n l f = tt

pub empty-none : (es : List Entry) (n : ℕ) → length es ≡ n → (n == 0) ≡ true → es ≡ []
empty-none [] n l t = refl
empty-none (e ∷ es) n l t = absurd (differ n l t)
  where
    differ : (n : ℕ) → suc (length es) ≡ n → (n == 0) ≡ true → ⊥
    differ n l t = grind (arith, nat_tests)

-- ---- an entry added

module _ (p : ℤ) (e : Entry) where
  abbrev new : Registration
  new = registration_at p e

  -- after those of a smaller priority
  pass_by : (q : ℤ) (es : List Entry) (rest : List Registration) → int_lt q p ≡ true
      → with_added (registrations_at q es ++ rest) new ≡ registrations_at q es ++ with_added rest new
  pass_by q [] rest l = refl
  pass_by q (x ∷ es) rest l = rw (below_away p q l, not_above q l) (ap (λ rs. registration_at q x ∷ rs) (pass_by q es rest l))
    where
      not_above : (q : ℤ) → int_lt q p ≡ true → int_lt p q ≡ false
      not_above q l = grind (arith, ints)

  -- before those of a larger one
  before : (gs : List Group) → AllAbove p gs → AreGroups gs → with_added (registrations_of gs) new ≡ new ∷ registrations_of gs
  before [] a h = refl
  before (g ∷ gs) a h = by_entries g.entries refl
    where
      by_entries : (es : List Entry) → g.entries ≡ es → with_added (registrations_of (g ∷ gs)) new ≡ new ∷ registrations_of (g ∷ gs)
      by_entries [] k = absurd (subst HasEntry k h.0)
      by_entries (y ∷ ys) k = rw (k, above_away p g.priority a.0, a.0) refl

  -- among those of the priority
  among : (es : List Entry) (rest : List Registration) → with_added rest new ≡ new ∷ rest
      → with_added (registrations_at p es ++ rest) new ≡ registrations_at p (with_entry es e) ++ rest
  among [] rest b = b
  among (x ∷ es) rest b =
      rw (equal-self p)
      (elim (x.callback == e.callback) as (λ b. cond b (registration_at p (record x { accepted = e.accepted }) ∷ registrations_at p es ++ rest)
      (cond (int_lt p p) (new ∷ registration_at p x ∷ registrations_at p es ++ rest) (registration_at p x ∷ with_added (registrations_at p es ++ rest) new))
      ≡ registrations_at p (cond b (record x { accepted = e.accepted } ∷ es) (x ∷ with_entry es e)) ++ rest)
      [ true ↦ refl | false ↦ rw (not_less-self p) (ap (λ rs. registration_at p x ∷ rs) (among es rest b)) ])

  pub added-set : (gs : List Group) (at : ℕ) (g h : Group) → AreGroups gs → IsAt p gs at → g ≡ get_or gs at g → h ≡ get_or gs at h
      → registrations_of (set gs at (group_of h.priority (with_entry g.entries e))) ≡ with_added (registrations_of gs) new
  added-set [] at g h l i u v = absurd i
  added-set (x ∷ gs) zero g h l i u v =
      let here : x.priority ≡ p = at_priority x.priority p i in
      let here-h : h.priority ≡ p = ap (λ (y : Group). y.priority) v ∙ here in
      rw (here-h, u, here) (sym (among x.entries (registrations_of gs) (before gs (subst (λ z. AllAbove z gs) here l.1) l.2)))
  added-set (x ∷ gs) (suc at) g h l i u v =
      ap (λ rs. registrations_at x.priority x.entries ++ rs) (added-set gs at g h l.2 i.1 u v) ∙ sym (pass_by x.priority x.entries (registrations_of gs) i.0)

  pub added-insert : (gs : List Group) (at : ℕ) → AreGroups gs → IsGap p gs at
      → registrations_of (insert gs at (group_of p (e ∷ []))) ≡ with_added (registrations_of gs) new
  added-insert [] zero l i = refl
  added-insert [] (suc at) l i = absurd i
  added-insert (x ∷ gs) zero l i = sym (before (x ∷ gs) (i, all_above p x.priority gs i l.1) l)
  added-insert (x ∷ gs) (suc at) l i =
      ap (λ rs. registrations_at x.priority x.entries ++ rs) (added-insert gs at l.2 i.1) ∙ sym (pass_by x.priority x.entries (registrations_of gs) i.0)

-- no group is at a gap's priority
pub each-gap : (p : ℤ) (gs : List Group) (at : ℕ) → AreGroups gs → IsGap p gs at → Each (λ z. int_eq z p) false gs
each-gap p [] at l i = tt
each-gap p (x ∷ gs) zero l i = (above_away p x.priority i, each-away p gs (all_above p x.priority gs i l.1))
each-gap p (x ∷ gs) (suc at) l i = (below_away p x.priority i.0, each-gap p gs at l.2 i.1)

-- ---- a callback's entry removed

module _ (p : ℤ) (c : ℕ) where
  abbrev stays : Registration → Bool
  stays r = not (is_of p c r)

  abbrev others : List Entry → List Entry
  others es = filter (λ e. not (e.callback == c)) es

  elsewhere : (q : ℤ) (es : List Entry) (rest : List Registration) → int_eq q p ≡ false
      → filter stays (registrations_at q es ++ rest) ≡ registrations_at q es ++ filter stays rest
  elsewhere q [] rest f = refl
  elsewhere q (x ∷ es) rest f = rw f (ap (λ rs. registration_at q x ∷ rs) (elsewhere q es rest f))

  here : (q : ℤ) (es : List Entry) (rest : List Registration) → int_eq q p ≡ true
      → filter stays (registrations_at q es ++ rest) ≡ registrations_at q (others es) ++ filter stays rest
  here q [] rest t = refl
  here q (x ∷ es) rest t =
      rw t
      (elim (x.callback == c) as (λ b. cond (not b) (registration_at q x ∷ filter stays (registrations_at q es ++ rest))
      (filter stays (registrations_at q es ++ rest)) ≡ registrations_at q (cond (not b) (x ∷ others es) (others es)) ++ filter stays rest)
      [ true ↦ here q es rest t | false ↦ ap (λ rs. registration_at q x ∷ rs) (here q es rest t) ])

  nowhere : (gs : List Group) → Each (λ z. int_eq z p) false gs → filter stays (registrations_of gs) ≡ registrations_of gs
  nowhere [] h = refl
  nowhere (g ∷ gs) h = elsewhere g.priority g.entries (registrations_of gs) h.0 ∙ ap (λ rs. registrations_at g.priority g.entries ++ rs) (nowhere gs h.1)

  above_it : (x : Group) (gs : List Group) → int_eq x.priority p ≡ true → AllAbove x.priority gs → filter stays (registrations_of gs) ≡ registrations_of gs
  above_it x gs i a = nowhere gs (each-away p gs (subst (λ z. AllAbove z gs) (at_priority x.priority p i) a))

  pub removed-set : (gs : List Group) (at : ℕ) (g h : Group) (left : List Entry) → AreGroups gs → IsAt p gs at → g ≡ get_or gs at g → h ≡ get_or gs at h
      → left ≡ others g.entries
      → registrations_of (set gs at (group_of h.priority left)) ≡ filter stays (registrations_of gs)
  removed-set [] at g h left l i u v w = absurd i
  removed-set (x ∷ gs) zero g h left l i u v w =
      let same : h.priority ≡ x.priority = ap (λ (y : Group). y.priority) v in
      rw (same, w, u) (sym (here x.priority x.entries (registrations_of gs) i
      ∙ ap (λ rs. registrations_at x.priority (others x.entries) ++ rs) (above_it x gs i l.1)))
  removed-set (x ∷ gs) (suc at) g h left l i u v w =
      ap (λ rs. registrations_at x.priority x.entries ++ rs) (removed-set gs at g h left l.2 i.1 u v w)
      ∙ sym (elsewhere x.priority x.entries (registrations_of gs) (below_away p x.priority i.0))

  pub removed-last : (gs : List Group) (at : ℕ) (g : Group) → AreGroups gs → IsAt p gs at → g ≡ get_or gs at g → others g.entries ≡ []
      → registrations_of (remove gs at) ≡ filter stays (registrations_of gs)
  removed-last [] at g l i u w = absurd i
  removed-last (x ∷ gs) zero g l i u w =
      let none : others x.entries ≡ [] = ap (λ (y : Group). others y.entries) (sym u) ∙ w in
      sym (here x.priority x.entries (registrations_of gs) i ∙ rw none (above_it x gs i l.1))
  removed-last (x ∷ gs) (suc at) g l i u w =
      ap (λ rs. registrations_at x.priority x.entries ++ rs) (removed-last gs at g l.2 i.1 u w)
      ∙ sym (elsewhere x.priority x.entries (registrations_of gs) (below_away p x.priority i.0))

  pub removed-none : (gs : List Group) (at : ℕ) → AreGroups gs → IsGap p gs at → registrations_of gs ≡ filter stays (registrations_of gs)
  removed-none gs at l i = sym (nowhere gs (each-gap p gs at l i))

-- ---- a group removed

module _ (p : ℤ) where
  abbrev other : ℤ → Bool
  other z = not (int_eq z p)

  each-other : (gs : List Group) → Each (λ z. int_eq z p) false gs → Each other true gs
  each-other [] h = tt
  each-other (g ∷ gs) h = (ap not h.0, each-other gs h.1)

  pub removed-group : (gs : List Group) (at : ℕ) → AreGroups gs → IsAt p gs at
      → registrations_of (remove gs at) ≡ filter (is_other (Some p)) (registrations_of gs)
  removed-group [] at l i = absurd i
  removed-group (x ∷ gs) zero l i =
      sym
      (held_back other x.priority x.entries (registrations_of gs) (ap not i)
      ∙ all_through other gs (each-other gs (each-away p gs (subst (λ z. AllAbove z gs) (at_priority x.priority p i) l.1))))
  removed-group (x ∷ gs) (suc at) l i =
      ap (λ rs. registrations_at x.priority x.entries ++ rs) (removed-group gs at l.2 i.1)
      ∙ sym (through other x.priority x.entries (registrations_of gs) (ap not (below_away p x.priority i.0)))

  pub removed-no_group : (gs : List Group) (at : ℕ) → AreGroups gs → IsGap p gs at → registrations_of gs ≡ filter (is_other (Some p)) (registrations_of gs)
  removed-no_group gs at l i = sym (all_through other gs (each-other gs (each-gap p gs at l i)))
