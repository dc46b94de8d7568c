-- The registrations that groups are.
use Rattle.std.proofs.Common.{◌≡◌, ℕ, zero, suc, ℤ, Bool, true, false, List, [], ◌∷◌, ◌++◌, map, filter, None, Some, refl, ap, subst, ◌∙◌, arith}
use Rattle.std.specs.Prelude.{int_lt, ◌≤ℤ◌, slice_get, Option}
use Rattle.std.specs.Ordering.{int_eq}
use Rattle.std.proofs.lemmas.Bool.Decides.{Decides-int_eq}
use Rattle.std.proofs.lemmas.Int.{ints}
use Rattle.hook_registry.specs.declared.registration.Entry.{Entry}
use Rattle.hook_registry.specs.declared.registration.Registration.{Registration}
use Rattle.hook_registry.specs.Order.{NoneBelow, IsAscending}
use Rattle.hook_registry.specs.Table.{is_at, is_above, entry_of, least, least_priority}
use Rattle.hook_registry.proofs.Ascending.{less_or_equal, least-ascending, above-none}
use Rattle.hook_registry.proofs.Places.{above_away, below_away}
use Rattle.hook_registry.specs.declared.group.Group.{Group}
use Rattle.hook_registry.specs.Groups.{registration_at, registrations_at, registrations_of, AllAbove, HasEntry, AreGroups, IsEnd, IsPlaceAbove}

pub less-trans : (p q r : ℤ) → int_lt p q ≡ true → int_lt q r ≡ true → int_lt p r ≡ true
less-trans p q r h k = grind (arith, ints)

pub equal-self : (p : ℤ) → int_eq p p ≡ true
equal-self p = (Decides-int_eq p p).1 refl

pub not_less-self : (p : ℤ) → int_lt p p ≡ false
not_less-self p = grind (arith, ints)

pub all_above : (p q : ℤ) (gs : List Group) → int_lt p q ≡ true → AllAbove q gs → AllAbove p gs
all_above p q [] l h = tt
all_above p q (g ∷ gs) l h = (less-trans p q g.priority l h.0, all_above p q gs l h.1)

pub above-get : (p : ℤ) (gs : List Group) (at : ℕ) (g : Group) → AllAbove p gs → slice_get gs at ≡ Some g → int_lt p g.priority ≡ true
above-get p [] at g h e = cc
above-get p (x ∷ gs) zero g h e = let same : x ≡ g = cc in subst (λ (y : Group). int_lt p y.priority ≡ true) same h.0
above-get p (x ∷ gs) (suc at) g h e = above-get p gs at g h.1 e

-- ---- the order of the registrations

none_below-at : (p q : ℤ) (es : List Entry) (rest : List Registration) → p ≤ℤ q → NoneBelow p rest → NoneBelow p (registrations_at q es ++ rest)
none_below-at p q [] rest l h = h
none_below-at p q (e ∷ es) rest l h = (l, none_below-at p q es rest l h)

none_below : (p : ℤ) (gs : List Group) → AllAbove p gs → NoneBelow p (registrations_of gs)
none_below p [] h = tt
none_below p (g ∷ gs) h = none_below-at p g.priority g.entries (registrations_of gs) (less_or_equal p g.priority h.0) (none_below p gs h.1)

same_or_less : (p : ℤ) → p ≤ℤ p
same_or_less p = grind (arith, ints)

ascending-at : (p : ℤ) (es : List Entry) (rest : List Registration) → NoneBelow p rest → IsAscending rest → IsAscending (registrations_at p es ++ rest)
ascending-at p [] rest h a = a
ascending-at p (e ∷ es) rest h a = (none_below-at p p es rest (same_or_less p) h, ascending-at p es rest h a)

pub ascending : (gs : List Group) → AreGroups gs → IsAscending (registrations_of gs)
ascending [] h = tt
ascending (g ∷ gs) h = ascending-at g.priority g.entries (registrations_of gs) (none_below g.priority gs h.1) (ascending gs h.2)

-- ---- those whose priority passes a test

module _ (test : ℤ → Bool) where
  abbrev passing : List Registration → List Registration
  passing rs = filter (λ r. test r.priority) rs

  -- the test has one result for all groups
  abbrev pub Each : Bool → List Group → Type 0
  Each b [] = Unit {0}
  Each b (g ∷ gs) = (test g.priority ≡ b) × Each b gs

  pub through : (q : ℤ) (es : List Entry) (rest : List Registration) → test q ≡ true
      → passing (registrations_at q es ++ rest) ≡ registrations_at q es ++ passing rest
  through q [] rest t = refl
  through q (e ∷ es) rest t = rw t (ap (λ rs. registration_at q e ∷ rs) (through q es rest t))

  pub held_back : (q : ℤ) (es : List Entry) (rest : List Registration) → test q ≡ false → passing (registrations_at q es ++ rest) ≡ passing rest
  held_back q [] rest f = refl
  held_back q (e ∷ es) rest f = rw f (held_back q es rest f)

  pub all_through : (gs : List Group) → Each true gs → passing (registrations_of gs) ≡ registrations_of gs
  all_through [] h = refl
  all_through (g ∷ gs) h = through g.priority g.entries (registrations_of gs) h.0 ∙ ap (λ rs. registrations_at g.priority g.entries ++ rs) (all_through gs h.1)

  pub all_held_back : (gs : List Group) → Each false gs → passing (registrations_of gs) ≡ []
  all_held_back [] h = refl
  all_held_back (g ∷ gs) h = held_back g.priority g.entries (registrations_of gs) h.0 ∙ all_held_back gs h.1

pub each-above : (p : ℤ) (gs : List Group) → AllAbove p gs → Each (int_lt p) true gs
each-above p [] h = tt
each-above p (g ∷ gs) h = (h.0, each-above p gs h.1)

pub each-away : (p : ℤ) (gs : List Group) → AllAbove p gs → Each (λ z. int_eq z p) false gs
each-away p [] h = tt
each-away p (g ∷ gs) h = (above_away p g.priority h.0, each-away p gs h.1)

-- ---- the group that comes next

least-first : (gs : List Group) (g : Group) → AreGroups gs → slice_get gs 0 ≡ Some g → least (map (λ r. r.priority) (registrations_of gs)) ≡ Some g.priority
least-first [] g h e = cc
least-first (x ∷ gs) g h e = by_entries x.entries refl
  where
    by_entries : (es : List Entry) → x.entries ≡ es → least (map (λ r. r.priority) (registrations_of (x ∷ gs))) ≡ Some g.priority
    by_entries [] k = absurd (subst HasEntry k h.0)
    by_entries (y ∷ ys) k =
        let same : x ≡ g = cc in
        least-ascending (registrations_of (x ∷ gs)) (ascending (x ∷ gs) h)
        ∙ rw k (ap (λ (z : Group). Some z.priority) same)

pub next-some : (above : Option ℤ) (gs : List Group) (at : ℕ) (g : Group) → AreGroups gs → IsPlaceAbove above gs at → slice_get gs at ≡ Some g
    → least_priority (is_above above) (registrations_of gs) ≡ Some g.priority
next-some None gs at g h p e = ap (λ rs. least (map (λ r. r.priority) rs)) (above-none (registrations_of gs)) ∙ least-first gs g h (rw p at e)
next-some (Some a) gs at g h p e = from gs at h p e
  where
    from : (gs : List Group) (at : ℕ) → AreGroups gs → IsEnd a gs at → slice_get gs at ≡ Some g
        → least_priority (is_above (Some a)) (registrations_of gs) ≡ Some g.priority
    from [] at h p e = cc
    from (x ∷ gs) zero h p e =
        ap (λ rs. least (map (λ r. r.priority) rs)) (all_through (int_lt a) (x ∷ gs) (p, each-above a gs (all_above a x.priority gs p h.1)))
        ∙ least-first (x ∷ gs) g h e
    from (x ∷ gs) (suc at) h p e = ap (λ rs. least (map (λ r. r.priority) rs)) (held_back (int_lt a) x.priority x.entries (registrations_of gs) p.0)
        ∙ from gs at h.2 p.1 e

first-none : (gs : List Group) → slice_get gs 0 ≡ None → gs ≡ []
first-none [] e = refl
first-none (g ∷ gs) e = cc

pub next-none : (above : Option ℤ) (gs : List Group) (at : ℕ) → AreGroups gs → IsPlaceAbove above gs at → slice_get gs at ≡ None
    → least_priority (is_above above) (registrations_of gs) ≡ None
next-none None gs at h p e =
    ap (λ rs. least (map (λ r. r.priority) rs)) (above-none (registrations_of gs) ∙ ap registrations_of (first-none gs (rw p at e)))
next-none (Some a) gs at h p e = from gs at p e
  where
    from : (gs : List Group) (at : ℕ) → IsEnd a gs at → slice_get gs at ≡ None → least_priority (is_above (Some a)) (registrations_of gs) ≡ None
    from [] at p e = refl
    from (x ∷ gs) zero p e = cc
    from (x ∷ gs) (suc at) p e = ap (λ rs. least (map (λ r. r.priority) rs)) (held_back (int_lt a) x.priority x.entries (registrations_of gs) p.0)
        ∙ from gs at p.1 e

-- ---- the entries of a group

entries-of : (p : ℤ) (es : List Entry) → map entry_of (registrations_at p es ++ []) ≡ es
entries-of p [] = refl
entries-of p (e ∷ es) = ap (λ rest. e ∷ rest) (entries-of p es)

pub group-at : (gs : List Group) (at : ℕ) (g : Group) → AreGroups gs → slice_get gs at ≡ Some g
    → map entry_of (filter (is_at g.priority) (registrations_of gs)) ≡ g.entries
group-at [] at g h e = cc
group-at (x ∷ gs) zero g h e =
    let same : x ≡ g = cc in
    subst (λ (y : Group). map entry_of (filter (is_at y.priority) (registrations_of (x ∷ gs))) ≡ y.entries) same
    (ap (map entry_of)
    (through (λ z. int_eq z x.priority) x.priority x.entries (registrations_of gs) (equal-self x.priority)
    ∙ ap (λ rs. registrations_at x.priority x.entries ++ rs) (all_held_back (λ z. int_eq z x.priority) gs (each-away x.priority gs h.1)))
    ∙ entries-of x.priority x.entries)
group-at (x ∷ gs) (suc at) g h e =
    ap (map entry_of) (held_back (λ z. int_eq z g.priority) x.priority x.entries (registrations_of gs)
    (below_away g.priority x.priority (above-get x.priority gs at g h.1 e)))
    ∙ group-at gs at g h.2 e
