-- The order in which registrations run, made from the order of adding.
use Rattle.std.proofs.Common.{◌≡◌, ℤ, true, false, Bool, cond, ◌&&◌, ◌||◌, List, [], ◌∷◌, map, filter, refl, ap, sym, subst, ◌∙◌, Some}
use Rattle.std.specs.Prelude.{◌==◌, ◌≤ℤ◌, int_lt, fold, if◌then◌else◌}
use Rattle.std.specs.Int.{int_min}
use Rattle.std.specs.List.{list_any}
use Rattle.std.proofs.lemmas.Bool.Decides.{Decides-int_eq}
use Rattle.std.proofs.Common.{arith}
use Rattle.std.proofs.lemmas.Int.{ints}
use Rattle.hook_registry.specs.declared.registration.Registration.{Registration}
use Rattle.hook_registry.specs.Order.{NoneBelow, IsAscending, with_placed, by_priority}
use Rattle.hook_registry.specs.Table.{is_at, is_of, with_added, least, least_priority}
use Rattle.hook_registry.proofs.Ascending.{not_above, less_or_equal, none_below_less, none_below-filter}
use Rattle.hook_registry.proofs.Places.{above_away, below_away}

-- a registration added to a list in the order of adding: one that is there keeps its place, another one goes last
abbrev pub appended : List Registration → Registration → List Registration
appended [] new = new ∷ []
appended (r ∷ rs) new = if is_of new.priority new.callback r then record r { accepted = new.accepted } ∷ rs else r ∷ appended rs new

-- ---- by ascending priority

placed_first : (r : Registration) (ss : List Registration) → NoneBelow r.priority ss → with_placed r ss ≡ r ∷ ss
placed_first r [] h = refl
placed_first r (s ∷ ss) h = rw (not_less r.priority s.priority h.0) refl
  where
    not_less : (p q : ℤ) → p ≤ℤ q → int_lt q p ≡ false
    not_less p q l = grind (arith, ints)

none_below-placed : (p : ℤ) (r : Registration) (ss : List Registration) → p ≤ℤ r.priority → NoneBelow p ss → NoneBelow p (with_placed r ss)
none_below-placed p r [] l h = (l, tt)
none_below-placed p r (s ∷ ss) l h =
    elim (int_lt s.priority r.priority) as (λ b. NoneBelow p (cond b (s ∷ with_placed r ss) (r ∷ s ∷ ss)))
    [ true ↦ (h.0, none_below-placed p r ss l h.1) | false ↦ (l, h) ]

ascending-placed : (r : Registration) (ss : List Registration) → IsAscending ss → IsAscending (with_placed r ss)
ascending-placed r [] h = (tt, tt)
ascending-placed r (s ∷ ss) h =
    elim (int_lt s.priority r.priority) as (λ b. int_lt s.priority r.priority ≡ b → IsAscending (cond b (s ∷ with_placed r ss) (r ∷ s ∷ ss))) [
      | true ↦ λ e. (none_below-placed s.priority r ss (less_or_equal s.priority r.priority e) h.0, ascending-placed r ss h.1)
      | false ↦ λ e. let l = not_above r.priority s.priority e in ((l, none_below_less r.priority s.priority ss l h.0), h)
    ] refl

ascending-by_priority : (rs : List Registration) → IsAscending (by_priority rs)
ascending-by_priority [] = tt
ascending-by_priority (r ∷ rs) = ascending-placed r (by_priority rs) (ascending-by_priority rs)

-- ---- a registration added

module _ (new : Registration) where
  -- the registration with the new one's count
  abbrev counted : Registration → Registration
  counted r = record r { accepted = new.accepted }

  abbrev is_same : Registration → Bool
  is_same r = is_of new.priority new.callback r

  lower : (p q r : ℤ) → int_lt p q ≡ true → int_lt q r ≡ true → int_lt p r ≡ true
  lower p q r h k = grind (arith, ints)

  lower_than : (p q r : ℤ) → int_lt p q ≡ true → int_lt r q ≡ false → int_lt p r ≡ true
  lower_than p q r h k = grind (arith, ints)

  not_lower : (p q : ℤ) → int_lt q p ≡ true → int_lt p q ≡ false
  not_lower p q h = grind (arith, ints)

  -- another one stays after those of smaller priority, and before the others
  added-placed : (r : Registration) (ss : List Registration) → is_same r ≡ false → with_added (with_placed r ss) new ≡ with_placed r (with_added ss new)
  added-placed r [] n = rw n refl
  added-placed r (s ∷ ss) n =
      elim (int_lt s.priority r.priority) as (λ b. int_lt s.priority r.priority ≡ b
      → with_added (cond b (s ∷ with_placed r ss) (r ∷ s ∷ ss)) new ≡ with_placed r (with_added (s ∷ ss) new)) [
        | true ↦ λ e.
            elim (is_same s) as (λ b. cond b (counted s ∷ with_placed r ss) (cond (int_lt new.priority s.priority) (new ∷ s ∷ with_placed r ss)
            (s ∷ with_added (with_placed r ss) new))
            ≡ with_placed r (cond b (counted s ∷ ss) (cond (int_lt new.priority s.priority) (new ∷ s ∷ ss) (s ∷ with_added ss new)))) [
              | true ↦ rw e refl
              | false ↦
                  elim (int_lt new.priority s.priority) as (λ b. int_lt new.priority s.priority ≡ b
                  → cond b (new ∷ s ∷ with_placed r ss) (s ∷ with_added (with_placed r ss) new)
                  ≡ with_placed r (cond b (new ∷ s ∷ ss) (s ∷ with_added ss new))) [
                    | true ↦ λ k. rw (lower new.priority s.priority r.priority k e, e) refl
                    | false ↦ λ k. rw e (ap (λ rest. s ∷ rest) (added-placed r ss n))
                  ] refl
            ]
        | false ↦ λ e.
            rw n
            (elim (int_lt new.priority r.priority) as (λ b. int_lt new.priority r.priority ≡ b
            → cond b (new ∷ r ∷ s ∷ ss) (r ∷ with_added (s ∷ ss) new) ≡ with_placed r (with_added (s ∷ ss) new)) [
              | true ↦ λ k.
                  let low : int_lt new.priority s.priority ≡ true = lower_than new.priority r.priority s.priority k e in
                  rw (above_away new.priority s.priority low, low, k, e) refl
              | false ↦ λ k.
                  elim (is_same s) as (λ b. r ∷ cond b (counted s ∷ ss) (cond (int_lt new.priority s.priority) (new ∷ s ∷ ss) (s ∷ with_added ss new))
                  ≡ with_placed r (cond b (counted s ∷ ss) (cond (int_lt new.priority s.priority) (new ∷ s ∷ ss) (s ∷ with_added ss new)))) [
                    | true ↦ rw e refl
                    | false ↦
                        elim (int_lt new.priority s.priority) as (λ b. r ∷ cond b (new ∷ s ∷ ss) (s ∷ with_added ss new)
                        ≡ with_placed r (cond b (new ∷ s ∷ ss) (s ∷ with_added ss new)))
                        [ true ↦ rw k refl | false ↦ rw e refl ]
                  ]
            ] refl)
      ] refl

  -- the same one takes the count in its place
  counted-placed : (r : Registration) (ss : List Registration) → is_same r ≡ true → r.priority ≡ new.priority
      → with_added (with_placed r ss) new ≡ with_placed (counted r) ss
  counted-placed r [] t p = rw t refl
  counted-placed r (s ∷ ss) t p =
      elim (int_lt s.priority r.priority) as (λ b. int_lt s.priority r.priority ≡ b
      → with_added (cond b (s ∷ with_placed r ss) (r ∷ s ∷ ss)) new ≡ cond b (s ∷ with_placed (counted r) ss) (counted r ∷ s ∷ ss)) [
        | true ↦ λ e.
            let low : int_lt s.priority new.priority ≡ true = subst (λ z. int_lt s.priority z ≡ true) p e in
            rw (below_away new.priority s.priority low, not_lower new.priority s.priority low) (ap (λ rest. s ∷ rest) (counted-placed r ss t p))
        | false ↦ λ e. rw t refl
      ] refl

  same_priority : (r : Registration) → is_same r ≡ true → r.priority ≡ new.priority
  same_priority r t =
      elim (is_at new.priority r) as (λ b. is_at new.priority r ≡ b → (b && (r.callback == new.callback)) ≡ true → r.priority ≡ new.priority)
      [ true ↦ λ e k. (Decides-int_eq r.priority new.priority).0 e | false ↦ λ e k. cc ] refl t

  pub added-by_priority : (rs : List Registration) → with_added (by_priority rs) new ≡ by_priority (appended rs new)
  added-by_priority [] = refl
  added-by_priority (r ∷ rs) =
      elim (is_same r) as (λ b. is_same r ≡ b → with_added (with_placed r (by_priority rs)) new ≡ by_priority (cond b (counted r ∷ rs) (r ∷ appended rs new))) [
        | true ↦ λ t. counted-placed r (by_priority rs) t (same_priority r t)
        | false ↦ λ n. added-placed r (by_priority rs) n ∙ ap (with_placed r) (added-by_priority rs)
      ] refl

-- ---- some of the registrations

module _ (passes : Registration → Bool) where
  left_out : (r : Registration) (ss : List Registration) → passes r ≡ false → filter passes (with_placed r ss) ≡ filter passes ss
  left_out r [] f = rw f refl
  left_out r (s ∷ ss) f =
      elim (int_lt s.priority r.priority) as (λ b. filter passes (cond b (s ∷ with_placed r ss) (r ∷ s ∷ ss)) ≡ filter passes (s ∷ ss))
      [ true ↦ ap (λ rest. cond (passes s) (s ∷ rest) rest) (left_out r ss f) | false ↦ rw f refl ]

  kept_in : (r : Registration) (ss : List Registration) → IsAscending ss → passes r ≡ true → filter passes (with_placed r ss) ≡ with_placed r (filter passes ss)
  kept_in r [] h t = rw t refl
  kept_in r (s ∷ ss) h t =
      elim (int_lt s.priority r.priority) as (λ b. int_lt s.priority r.priority ≡ b
      → filter passes (cond b (s ∷ with_placed r ss) (r ∷ s ∷ ss)) ≡ with_placed r (filter passes (s ∷ ss))) [
        | true ↦ λ e.
            elim (passes s) as (λ b. cond b (s ∷ filter passes (with_placed r ss)) (filter passes (with_placed r ss))
            ≡ with_placed r (cond b (s ∷ filter passes ss) (filter passes ss)))
            [ true ↦ rw e (ap (λ rest. s ∷ rest) (kept_in r ss h.1 t)) | false ↦ kept_in r ss h.1 t ]
        | false ↦ λ e.
            let l = not_above r.priority s.priority e in
            rw t (sym (placed_first r (filter passes (s ∷ ss)) (none_below-filter r.priority passes (s ∷ ss)
            (l, none_below_less r.priority s.priority ss l h.0))))
      ] refl

  pub filter-by_priority : (rs : List Registration) → filter passes (by_priority rs) ≡ by_priority (filter passes rs)
  filter-by_priority [] = refl
  filter-by_priority (r ∷ rs) =
      elim (passes r) as (λ b. passes r ≡ b → filter passes (with_placed r (by_priority rs)) ≡ by_priority (cond b (r ∷ filter passes rs) (filter passes rs))) [
        | true ↦ λ t. kept_in r (by_priority rs) (ascending-by_priority rs) t ∙ ap (with_placed r) (filter-by_priority rs)
        | false ↦ λ f. left_out r (by_priority rs) f ∙ filter-by_priority rs
      ] refl

-- ---- those at a priority, and the smallest priority

each_at : (p : ℤ) (rs : List Registration) → NoneBelow p (filter (is_at p) rs)
each_at p [] = tt
each_at p (r ∷ rs) =
    elim (is_at p r) as (λ b. is_at p r ≡ b → NoneBelow p (cond b (r ∷ filter (is_at p) rs) (filter (is_at p) rs)))
    [ true ↦ λ e. (at_least p r.priority ((Decides-int_eq r.priority p).0 e), each_at p rs) | false ↦ λ e. each_at p rs ] refl
  where
    at_least : (p q : ℤ) → q ≡ p → p ≤ℤ q
    at_least p q e = grind (arith, ints)

one_priority : (p : ℤ) (rs : List Registration) → by_priority (filter (is_at p) rs) ≡ filter (is_at p) rs
one_priority p [] = refl
one_priority p (r ∷ rs) =
    elim (is_at p r) as (λ b. is_at p r ≡ b → by_priority (cond b (r ∷ filter (is_at p) rs) (filter (is_at p) rs))
    ≡ cond b (r ∷ filter (is_at p) rs) (filter (is_at p) rs)) [
      | true ↦ λ e.
          let same : r.priority ≡ p = (Decides-int_eq r.priority p).0 e in
          ap (with_placed r) (one_priority p rs) ∙ placed_first r (filter (is_at p) rs) (subst (λ z. NoneBelow z (filter (is_at p) rs)) (sym same)
          (each_at p rs))
      | false ↦ λ e. one_priority p rs
    ] refl

pub group-by_priority : (p : ℤ) (rs : List Registration) → filter (is_at p) (by_priority rs) ≡ filter (is_at p) rs
group-by_priority p rs = filter-by_priority (is_at p) rs ∙ one_priority p rs

abbrev priorities : List Registration → List ℤ
priorities rs = map (λ r. r.priority) rs

swapped : (a b c : ℤ) → int_min (int_min a b) c ≡ int_min (int_min a c) b
swapped a b c = grind (arith, ints)

either_first : (a b : ℤ) → int_min a b ≡ int_min b a
either_first a b = grind (arith, ints)

fold-placed : (a : ℤ) (r : Registration) (ss : List Registration)
    → fold int_min a (priorities (with_placed r ss)) ≡ fold int_min (int_min a r.priority) (priorities ss)
fold-placed a r [] = refl
fold-placed a r (s ∷ ss) =
    elim (int_lt s.priority r.priority) as (λ b. fold int_min a (priorities (cond b (s ∷ with_placed r ss) (r ∷ s ∷ ss)))
    ≡ fold int_min (int_min a r.priority) (priorities (s ∷ ss)))
    [ true ↦ fold-placed (int_min a s.priority) r ss ∙ ap (λ z. fold int_min z (priorities ss)) (swapped a s.priority r.priority) | false ↦ refl ]

fold-by_priority : (a : ℤ) (rs : List Registration) → fold int_min a (priorities (by_priority rs)) ≡ fold int_min a (priorities rs)
fold-by_priority a [] = refl
fold-by_priority a (r ∷ rs) = fold-placed a r (by_priority rs) ∙ fold-by_priority (int_min a r.priority) rs

least-placed : (r : Registration) (ss : List Registration) → least (priorities (with_placed r ss)) ≡ Some (fold int_min r.priority (priorities ss))
least-placed r [] = refl
least-placed r (s ∷ ss) =
    elim (int_lt s.priority r.priority) as (λ b. least (priorities (cond b (s ∷ with_placed r ss) (r ∷ s ∷ ss)))
    ≡ Some (fold int_min r.priority (priorities (s ∷ ss))))
    [ true ↦ ap Some (fold-placed s.priority r ss ∙ ap (λ z. fold int_min z (priorities ss)) (either_first s.priority r.priority)) | false ↦ refl ]

least-by_priority : (rs : List Registration) → least (priorities (by_priority rs)) ≡ least (priorities rs)
least-by_priority [] = refl
least-by_priority (r ∷ rs) = least-placed r (by_priority rs) ∙ ap Some (fold-by_priority r.priority rs)

pub least_priority-by_priority : (passes : Registration → Bool) (rs : List Registration) → least_priority passes (by_priority rs) ≡ least_priority passes rs
least_priority-by_priority passes rs = ap (λ ss. least (priorities ss)) (filter-by_priority passes rs) ∙ least-by_priority (filter passes rs)

-- ---- whether any passes

module _ (passes : Registration → Bool) where
  either_next : (a b c : Bool) → (a || (b || c)) ≡ (b || (a || c))
  either_next true true c = refl
  either_next true false c = refl
  either_next false b c = refl

  any-placed : (r : Registration) (ss : List Registration) → list_any passes (with_placed r ss) ≡ (passes r || list_any passes ss)
  any-placed r [] = refl
  any-placed r (s ∷ ss) =
      elim (int_lt s.priority r.priority) as (λ b. list_any passes (cond b (s ∷ with_placed r ss) (r ∷ s ∷ ss))
      ≡ (passes r || (passes s || list_any passes ss)))
      [ true ↦ ap (λ b. passes s || b) (any-placed r ss) ∙ either_next (passes s) (passes r) (list_any passes ss) | false ↦ refl ]

  pub any-by_priority : (rs : List Registration) → list_any passes (by_priority rs) ≡ list_any passes rs
  any-by_priority [] = refl
  any-by_priority (r ∷ rs) = any-placed r (by_priority rs) ∙ ap (λ b. passes r || b) (any-by_priority rs)
