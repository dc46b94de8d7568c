-- The table of registrations and its groups (Code Reference, add_filter, remove_filter, remove_all_filters, has_filter).
use Rattle.std.specs.Prelude.{ℕ, ℤ, Bool, true, not, ◌&&◌, ◌==◌, List, [], ◌∷◌, map, filter, Option, None, Some, unwrap_or, if◌then◌else◌, int_lt}
use Rattle.std.specs.Int.{int_min}
use Rattle.std.specs.Ordering.{int_eq}
use Rattle.std.specs.List.{reduce}
use Rattle.std.specs.Str.{bytes_eq}
use Rattle.hook_registry.specs.declared.registration.Registration.{Registration}
use Rattle.hook_registry.specs.declared.registration.Entry.{Entry}
use Rattle.hook_registry.specs.Named.{value_of, set_value}

-- for each hook its registrations in the order in which they run: by ascending priority, and those of one priority in the
-- order of adding
abbrev pub Table : Type 0
Table = List (List ℕ × List Registration)

-- the registrations of a hook
abbrev pub registrations : Table → List ℕ → List Registration
registrations table hook = unwrap_or (value_of table hook) []

-- whether a registration is at a priority
abbrev pub is_at : ℤ → Registration → Bool
is_at priority r = int_eq r.priority priority

-- the registration of that callback at that priority
abbrev pub is_of : ℤ → ℕ → Registration → Bool
is_of priority callback r = is_at priority r && r.callback == callback

-- a registration that is there keeps its place and takes the new accepted count; another one goes before the first of a
-- larger priority
abbrev pub with_added : List Registration → Registration → List Registration
with_added [] new = new ∷ []
with_added (r ∷ rs) new =
    if is_of new.priority new.callback r then record r { accepted = new.accepted } ∷ rs
    else if int_lt new.priority r.priority then new ∷ r ∷ rs
    else r ∷ with_added rs new

-- the table with one more registration
abbrev pub add : Table → List ℕ → Registration → Table
add table hook new = set_value table hook (with_added (registrations table hook) new)

-- of one hook the registrations that pass, and all of the others
abbrev pub keeping : (Registration → Bool) → Table → List ℕ → Table
keeping passes [] hook = []
keeping passes (p ∷ ps) hook = if bytes_eq hook p.0 then (p.0, filter passes p.1) ∷ ps else p ∷ keeping passes ps hook

-- the table without the registration of a callback at a priority
abbrev pub remove : Table → List ℕ → ℤ → ℕ → Table
remove table hook priority callback = keeping (λ r. not (is_of priority callback r)) table hook

-- whether a registration has another priority than the given one, if one is given
abbrev pub is_other : Option ℤ → Registration → Bool
is_other None r = not true
is_other (Some priority) r = not (is_at priority r)

-- without those of one priority, or without any
abbrev pub remove_all : Table → List ℕ → Option ℤ → Table
remove_all table hook priority = keeping (is_other priority) table hook

-- the part of a registration that a pass needs
abbrev pub entry_of : Registration → Entry
entry_of r = record { callback = r.callback; accepted = r.accepted }

-- the callbacks of a hook at a priority, in the order of adding
abbrev pub group : Table → List ℕ → ℤ → List Entry
group table hook priority = map entry_of (filter (is_at priority) (registrations table hook))

-- the smallest of some numbers
abbrev pub least : List ℤ → Option ℤ
least xs = reduce int_min xs

-- whether a registration has a larger priority than the given one, if one is given
abbrev pub is_above : Option ℤ → Registration → Bool
is_above None r = true
is_above (Some other) r = int_lt other r.priority

-- the smallest priority of the registrations that pass a test
abbrev pub least_priority : (Registration → Bool) → List Registration → Option ℤ
least_priority passes rs = least (map (λ r. r.priority) (filter passes rs))

-- the smallest priority of a hook, above another one if that is given
abbrev pub next_priority : Table → List ℕ → Option ℤ → Option ℤ
next_priority table hook above = least_priority (is_above above) (registrations table hook)

-- the smallest priority of a hook
abbrev pub first : Table → List ℕ → Option ℤ
first table hook = next_priority table hook None

-- the smallest priority of a hook that is larger than another
abbrev pub after : Table → List ℕ → ℤ → Option ℤ
after table hook priority = next_priority table hook (Some priority)

-- whether the hook has any registration
abbrev pub has : Table → List ℕ → Bool
has table hook = has_some (registrations table hook)
  where
    has_some : List Registration → Bool
    has_some [] = not true
    has_some (r ∷ rs) = true

-- the smallest priority of the callback there
abbrev pub priority_of : Table → List ℕ → ℕ → Option ℤ
priority_of table hook callback = least_priority (λ r. r.callback == callback) (registrations table hook)

-- what a registry holds: registrations, the handlers of tags, and how often each action was fired
pub record Registered : Type 0 where
  pub table : Table
  pub tags : List (List ℕ × ℕ)
  pub counts : List (List ℕ × ℕ)

-- how often an action was fired
abbrev pub times_fired : List (List ℕ × ℕ) → List ℕ → ℕ
times_fired counts hook = unwrap_or (value_of counts hook) 0
