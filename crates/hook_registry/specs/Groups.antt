-- A hook's registrations as groups, one for each priority.
use Rattle.std.specs.Prelude.{◌≡◌, ℕ, zero, suc, ℤ, int_lt, true, false, List, [], ◌∷◌, map, flat_map, Option, None, Some}
use Rattle.std.specs.Ordering.{int_eq}
use Rattle.hook_registry.specs.declared.registration.Entry.{Entry}
use Rattle.hook_registry.specs.declared.registration.Registration.{Registration}
use Rattle.hook_registry.specs.declared.group.Group.{Group}

abbrev pub registration_at : ℤ → Entry → Registration
registration_at priority e = record { priority = priority; callback = e.callback; accepted = e.accepted }

abbrev pub registrations_at : ℤ → List Entry → List Registration
registrations_at priority es = map (registration_at priority) es

-- the registrations of groups, in the order in which they run
abbrev pub registrations_of : List Group → List Registration
registrations_of groups = flat_map (λ g. registrations_at g.priority g.entries) groups

-- all of them run after a priority
abbrev pub AllAbove : ℤ → List Group → Type 0
AllAbove priority [] = Unit {0}
AllAbove priority (g ∷ gs) = (int_lt priority g.priority ≡ true) × AllAbove priority gs

abbrev pub HasEntry : List Entry → Type 0
HasEntry [] = ⊥
HasEntry (e ∷ es) = Unit {0}

-- the groups of a hook: by ascending priority, and none of them is empty
abbrev pub AreGroups : List Group → Type 0
AreGroups [] = Unit {0}
AreGroups (g ∷ gs) = HasEntry g.entries × AllAbove g.priority gs × AreGroups gs

-- the group of the priority is at a place
abbrev pub IsAt : ℤ → List Group → ℕ → Type 0
IsAt priority [] at = ⊥
IsAt priority (g ∷ gs) zero = int_eq g.priority priority ≡ true
IsAt priority (g ∷ gs) (suc at) = (int_lt g.priority priority ≡ true) × IsAt priority gs at

-- there is no group of the priority, and its place would be this one
abbrev pub IsGap : ℤ → List Group → ℕ → Type 0
IsGap priority [] zero = Unit {0}
IsGap priority [] (suc at) = ⊥
IsGap priority (g ∷ gs) zero = int_lt priority g.priority ≡ true
IsGap priority (g ∷ gs) (suc at) = (int_lt g.priority priority ≡ true) × IsGap priority gs at

-- the groups up to the priority end at a place
abbrev pub IsEnd : ℤ → List Group → ℕ → Type 0
IsEnd priority [] zero = Unit {0}
IsEnd priority [] (suc at) = ⊥
IsEnd priority (g ∷ gs) zero = int_lt priority g.priority ≡ true
IsEnd priority (g ∷ gs) (suc at) = (int_lt priority g.priority ≡ false) × IsEnd priority gs at

-- the place of the first group above a priority, or of the first group if none is given
abbrev pub IsPlaceAbove : Option ℤ → List Group → ℕ → Type 0
IsPlaceAbove None gs at = at ≡ 0
IsPlaceAbove (Some priority) gs at = IsEnd priority gs at
