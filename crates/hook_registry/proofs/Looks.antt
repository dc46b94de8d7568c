-- What the groups of a hook are asked.
use Rattle.std.proofs.Common.{◌≡◌, ℕ, zero, suc, ◌<◌, ℤ, Bool, true, false, true≢false, not, cond, ◌||◌, List, [], ◌∷◌, ◌++◌, map, filter, length, get_or, set}
use Rattle.std.proofs.Common.{None, Some, refl, ap, sym, subst, ◌∙◌, arith}
use Rattle.std.specs.Prelude.{◌==◌, slice_get, option_map}
use Rattle.std.specs.Ordering.{int_eq}
use Rattle.std.specs.List.{AllWithin, list_any, remove}
use Rattle.std.proofs.lemmas.Bool.Decides.{nat_tests}
use Rattle.std.proofs.lemmas.Option.{slice_get_read}
use Rattle.hook_registry.specs.declared.registration.Entry.{Entry}
use Rattle.hook_registry.specs.declared.registration.Registration.{Registration}
use Rattle.hook_registry.specs.declared.group.Group.{Group}
use Rattle.hook_registry.specs.Entries.{is_by}
use Rattle.hook_registry.specs.Groups.{registration_at, registrations_at, registrations_of, AllAbove, HasEntry, AreGroups, IsAt, IsGap}
use Rattle.hook_registry.specs.Order.{IsAscending}
use Rattle.hook_registry.specs.Table.{Table, registrations, has, is_at, is_of, entry_of, least, least_priority}
use Rattle.hook_registry.proofs.Ascending.{least-ascending, none_below-filter}
use Rattle.hook_registry.proofs.Groups.{ascending, all_held_back, group-at, each-away, Each}
use Rattle.hook_registry.proofs.Edits.{at_priority, within, each-gap}
use Rattle.hook_registry.proofs.Adding.{none_of}
use Rattle.hook_registry.proofs.Places.{below_away}

some_not_none : (n : ℕ) → (suc n == 0) ≡ false
some_not_none n = grind (arith, nat_tests)

pub has-some : (t : Table) (hook : List ℕ) (rs : List Registration) (empty : Bool) → rs ≡ registrations t hook → empty ≡ (length rs == 0)
    → not empty ≡ has t hook
has-some t hook [] empty e h = rw (← e, h) refl
has-some t hook (r ∷ rs) empty e h = rw (← e, h, some_not_none (length rs)) refl

pub has-none : (t : Table) (hook : List ℕ) → [] ≡ registrations t hook → false ≡ has t hook
has-none t hook e = rw (← e) refl

pub no-groups : (gs : List Group) (n : ℕ) → AreGroups gs → length gs ≡ n → (n == 0) ≡ (length (registrations_of gs) == 0)
no-groups [] n h e = rw (← e) refl
no-groups (g ∷ gs) n h e = by_entries g.entries refl
  where
    by_entries : (es : List Entry) → g.entries ≡ es → (n == 0) ≡ (length (registrations_of (g ∷ gs)) == 0)
    by_entries [] k = absurd (subst HasEntry k h.0)
    by_entries (y ∷ ys) k = rw (← e, k) (some_not_none (length gs) ∙ sym (some_not_none _))

-- ---- the callbacks at a priority

pub priority-at : (p : ℤ) (gs : List Group) (at : ℕ) (g : Group) → IsAt p gs at → g ≡ get_or gs at g → g.priority ≡ p
priority-at p [] at g i e = absurd i
priority-at p (x ∷ gs) zero g i e = ap (λ (y : Group). y.priority) e ∙ at_priority x.priority p i
priority-at p (x ∷ gs) (suc at) g i e = priority-at p gs at g i.1 e

pub entries-there : (p : ℤ) (gs : List Group) (at : ℕ) (g : Group) → AreGroups gs → IsAt p gs at → g ≡ get_or gs at g
    → map entry_of (filter (is_at p) (registrations_of gs)) ≡ g.entries
entries-there p gs at g h i e =
    subst (λ q. map entry_of (filter (is_at q) (registrations_of gs)) ≡ g.entries) (priority-at p gs at g i e)
    (group-at gs at g h (slice_get_read gs (length gs) at g refl (within p gs at i) e))

pub entries-gap : (p : ℤ) (gs : List Group) (at : ℕ) → AreGroups gs → IsGap p gs at → map entry_of (filter (is_at p) (registrations_of gs)) ≡ []
entries-gap p gs at h i = ap (map entry_of) (all_held_back (λ z. int_eq z p) gs (each-gap p gs at h i))

-- ---- a callback's smallest priority

ascending-filter : (passes : Registration → Bool) (rs : List Registration) → IsAscending rs → IsAscending (filter passes rs)
ascending-filter passes [] a = a
ascending-filter passes (r ∷ rs) a = elim (passes r) as (λ b. IsAscending (cond b (r ∷ filter passes rs) (filter passes rs)))
    [ true ↦ (none_below-filter r.priority passes rs a.0, ascending-filter passes rs a.1) | false ↦ ascending-filter passes rs a.1 ]

module _ (c : ℕ) where
  abbrev of_callback : Registration → Bool
  of_callback r = r.callback == c

  -- no entry of the group is the callback's
  abbrev pub IsWithout : Group → Type 0
  IsWithout g = list_any (is_by c) g.entries ≡ false

  later : (x : Group) (groups : List Group) (i : ℕ) → AllWithin IsWithout (x ∷ groups) 0 (suc i) → AllWithin IsWithout groups 0 i
  later x groups i all at other low high = all (suc at) other (omega arith) (omega arith)

  pass_over : (q : ℤ) (es : List Entry) (rest : List Registration) → list_any (is_by c) es ≡ false
      → filter of_callback (registrations_at q es ++ rest) ≡ filter of_callback rest
  pass_over q [] rest f = refl
  pass_over q (e ∷ es) rest f = let n = none_of (e.callback == c) (list_any (is_by c) es) f in rw n.0 (pass_over q es rest n.1)

  first_there : (q : ℤ) (es : List Entry) (rest : List Registration) → list_any (is_by c) es ≡ true
      → option_map (λ (r : Registration). r.priority) (slice_get (filter of_callback (registrations_at q es ++ rest)) 0) ≡ Some q
  first_there q [] rest t = absurd (true≢false (sym t))
  first_there q (e ∷ es) rest t =
      elim (e.callback == c) as (λ b. (b || list_any (is_by c) es) ≡ true → option_map (λ (r : Registration). r.priority)
      (slice_get (cond b (registration_at q e ∷ filter of_callback (registrations_at q es ++ rest)) (filter of_callback (registrations_at q es ++ rest))) 0)
      ≡ Some q)
      [ true ↦ λ k. refl | false ↦ λ k. first_there q es rest k ] t

  pub least-found : (gs : List Group) (at : ℕ) (g : Group) → AreGroups gs → AllWithin IsWithout gs 0 at → at < length gs → g ≡ get_or gs at g
      → list_any (is_by c) g.entries ≡ true → least_priority of_callback (registrations_of gs) ≡ Some g.priority
  least-found [] at g h w l e t = absurd (omega arith)
  least-found (x ∷ gs) zero g h w l e t =
      let there : list_any (is_by c) x.entries ≡ true = subst (λ (y : Group). list_any (is_by c) y.entries ≡ true) e t in
      least-ascending (filter of_callback (registrations_of (x ∷ gs)))
      (ascending-filter of_callback (registrations_of (x ∷ gs)) (ascending (x ∷ gs) h))
      ∙ first_there x.priority x.entries (registrations_of gs) there ∙ ap (λ (y : Group). Some y.priority) (sym e)
  least-found (x ∷ gs) (suc at) g h w l e t =
      ap (λ rs. least (map (λ r. r.priority) rs)) (pass_over x.priority x.entries (registrations_of gs) (w 0 x (omega arith) (omega arith)))
      ∙ least-found gs at g h.2 (later x gs at w) (omega arith) e t

  pub least-none : (gs : List Group) → AllWithin IsWithout gs 0 (length gs) → least_priority of_callback (registrations_of gs) ≡ None
  least-none [] w = refl
  least-none (x ∷ gs) w =
      ap (λ rs. least (map (λ r. r.priority) rs)) (pass_over x.priority x.entries (registrations_of gs) (w 0 x (omega arith) (omega arith)))
      ∙ least-none gs (later x gs (length gs) w)

-- ---- whether a callback has an entry at a priority

any_at : (p q : ℤ) (c : ℕ) (es : List Entry) (rest : List Registration) → int_eq q p ≡ true
    → list_any (is_of p c) (registrations_at q es ++ rest) ≡ (list_any (is_by c) es || list_any (is_of p c) rest)
any_at p q c [] rest t = refl
any_at p q c (e ∷ es) rest t =
    rw t (elim (e.callback == c) as (λ b. (b || list_any (is_of p c) (registrations_at q es ++ rest))
    ≡ ((b || list_any (is_by c) es) || list_any (is_of p c) rest))
    [ true ↦ refl | false ↦ any_at p q c es rest t ])

any_elsewhere : (p q : ℤ) (c : ℕ) (es : List Entry) (rest : List Registration) → int_eq q p ≡ false
    → list_any (is_of p c) (registrations_at q es ++ rest) ≡ list_any (is_of p c) rest
any_elsewhere p q c [] rest f = refl
any_elsewhere p q c (e ∷ es) rest f = rw f (any_elsewhere p q c es rest f)

none_away : (p : ℤ) (c : ℕ) (gs : List Group) → Each (λ z. int_eq z p) false gs → list_any (is_of p c) (registrations_of gs) ≡ false
none_away p c [] h = refl
none_away p c (g ∷ gs) h = any_elsewhere p g.priority c g.entries (registrations_of gs) h.0 ∙ none_away p c gs h.1

or_false : (b : Bool) → (b || false) ≡ b
or_false true = refl
or_false false = refl

pub any-there : (p : ℤ) (c : ℕ) (gs : List Group) (at : ℕ) (g : Group) → AreGroups gs → IsAt p gs at → g ≡ get_or gs at g
    → list_any (is_by c) g.entries ≡ list_any (is_of p c) (registrations_of gs)
any-there p c [] at g h i e = absurd i
any-there p c (x ∷ gs) zero g h i e =
    let away : Each (λ z. int_eq z p) false gs = each-away p gs (subst (λ z. AllAbove z gs) (at_priority x.priority p i) h.1) in
    ap (λ (y : Group). list_any (is_by c) y.entries) e
    ∙ sym (any_at p x.priority c x.entries (registrations_of gs) i
    ∙ ap (λ b. list_any (is_by c) x.entries || b) (none_away p c gs away) ∙ or_false (list_any (is_by c) x.entries))
any-there p c (x ∷ gs) (suc at) g h i e =
    any-there p c gs at g h.2 i.1 e ∙ sym (any_elsewhere p x.priority c x.entries (registrations_of gs) (below_away p x.priority i.0))

pub any-gap : (p : ℤ) (c : ℕ) (gs : List Group) (at : ℕ) → AreGroups gs → IsGap p gs at → false ≡ list_any (is_of p c) (registrations_of gs)
any-gap p c gs at h i = sym (none_away p c gs (each-gap p gs at h i))

-- a group that is changed and then removed
pub remove-set : (gs : List Group) (at : ℕ) (x : Group) → remove (set gs at x) at ≡ remove gs at
remove-set [] zero x = refl
remove-set [] (suc at) x = refl
remove-set (g ∷ gs) zero x = refl
remove-set (g ∷ gs) (suc at) x = ap (λ ys. g ∷ ys) (remove-set gs at x)

pub at-set : (gs : List Group) (at : ℕ) (x g : Group) → at < length gs → g ≡ get_or (set gs at x) at g → g ≡ x
at-set [] at x g l e = absurd (omega arith)
at-set (y ∷ gs) zero x g l e = e
at-set (y ∷ gs) (suc at) x g l e = at-set gs at x g (omega arith) e
