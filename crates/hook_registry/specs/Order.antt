-- The order in which the registrations of a hook run (Plugin Handbook, Hooks: priority).
use Rattle.std.specs.Prelude.{ℤ, List, [], ◌∷◌, int_lt, ◌≤ℤ◌, if◌then◌else◌}
use Rattle.std.specs.List.{AllByRecursion}
use Rattle.hook_registry.specs.declared.registration.Registration.{Registration}

-- none of them runs before a priority
abbrev pub NoneBelow : ℤ → List Registration → Type 0
NoneBelow priority rs = AllByRecursion (λ r. priority ≤ℤ r.priority) rs

-- by ascending priority
abbrev pub IsAscending : List Registration → Type 0
IsAscending [] = Unit {0}
IsAscending (r ∷ rs) = NoneBelow r.priority rs × IsAscending rs

-- a registration in its place: after those of smaller priority, and before the others
abbrev pub with_placed : Registration → List Registration → List Registration
with_placed r [] = r ∷ []
with_placed r (s ∷ ss) = if int_lt s.priority r.priority then s ∷ with_placed r ss else r ∷ s ∷ ss

-- a list by ascending priority; those of one priority stay in their order
abbrev pub by_priority : List Registration → List Registration
by_priority [] = []
by_priority (r ∷ rs) = with_placed r (by_priority rs)
