-- Small tables, for worked cases.
use Rattle.std.specs.Prelude.{ℕ, ℤ, pos, negsuc, List, [], ◌∷◌, fold, codes}
use Rattle.hook_registry.specs.declared.registration.Registration.{Registration}
use Rattle.hook_registry.specs.Table.{Table, add}

abbrev pub the_title : List ℕ
the_title = codes "the_title"

-- a callback at a priority, with its accepted count
abbrev pub at : ℤ → ℕ → ℕ → Registration
at priority callback accepted = record { priority = priority; callback = callback; accepted = accepted }

-- registrations added in turn under one hook, if nothing was registered
abbrev pub with_title : List Registration → Table
with_title new = fold (λ table r. add table the_title r) [] new

-- callbacks at the largest priority, at 0 and at the smallest
abbrev pub far_apart : Table
far_apart = with_title (at (pos 2147483647) 1 1 ∷ at (pos 0) 2 1 ∷ at (negsuc 2147483647) 3 1 ∷ [])

-- one callback at two priorities, and another at one of them
abbrev pub one_at_two_priorities : Table
one_at_two_priorities = with_title (at (pos 10) 7 1 ∷ at (pos 9) 7 2 ∷ at (pos 10) 3 2 ∷ [])
