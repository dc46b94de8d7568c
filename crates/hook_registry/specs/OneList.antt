-- The registrations of all hooks as one list, in the order of adding.
use Rattle.std.specs.Prelude.{ℕ, ℤ, Bool, not, ◌&&◌, ◌||◌, List, [], ◌∷◌, map, filter, fold, Option, Some, bytes_eq, if◌then◌else◌}
use Rattle.hook_registry.specs.declared.registration.Registration.{Registration}
use Rattle.hook_registry.specs.Table as table
use Rattle.hook_registry.specs.Table.{Table, is_of, is_other}

-- a registration, with its hook
pub record Listed : Type 0 where
  pub hook : List ℕ
  pub registration : Registration

abbrev pub is_in : List ℕ → Listed → Bool
is_in hook l = bytes_eq hook l.hook

-- the registration of that callback under that hook at that priority
abbrev pub is_same : List ℕ → ℤ → ℕ → Listed → Bool
is_same hook priority callback l = is_in hook l && is_of priority callback l.registration

-- a registration that is there keeps its place and takes the new accepted count; another one goes last
abbrev pub add : List Listed → List ℕ → Registration → List Listed
add [] hook new = record { hook = hook; registration = new } ∷ []
add (l ∷ ls) hook new =
    if is_same hook new.priority new.callback l then record l { registration = record l.registration { accepted = new.accepted } } ∷ ls else l ∷ add ls hook new

abbrev pub remove : List Listed → List ℕ → ℤ → ℕ → List Listed
remove list hook priority callback = filter (λ l. not (is_same hook priority callback l)) list

-- without those of the hook that have the priority, or without any of the hook
abbrev pub remove_all : List Listed → List ℕ → Option ℤ → List Listed
remove_all list hook priority = filter (λ l. not (is_in hook l) || is_other priority l.registration) list

-- the hook's registrations, in the order of adding
abbrev pub registrations_in : List Listed → List ℕ → List Registration
registrations_in list hook = map (λ l. l.registration) (filter (is_in hook) list)

-- a change of what is registered under a hook: a registration added, one of a priority and a callback removed, or all
-- of a priority, or of any, removed
pub data TableChange : Type 0 where
  Added : List ℕ → Registration → TableChange
  Removed : List ℕ → ℤ → ℕ → TableChange
  RemovedAll : List ℕ → Option ℤ → TableChange

abbrev pub with_change : Table → TableChange → Table
with_change t (Added hook new) = table.add t hook new
with_change t (Removed hook priority callback) = table.remove t hook priority callback
with_change t (RemovedAll hook priority) = table.remove_all t hook priority

abbrev pub list_with_change : List Listed → TableChange → List Listed
list_with_change list (Added hook new) = add list hook new
list_with_change list (Removed hook priority callback) = remove list hook priority callback
list_with_change list (RemovedAll hook priority) = remove_all list hook priority

-- the table, and the list, after some changes, if nothing was registered before
abbrev pub table_after : List TableChange → Table
table_after changes = fold with_change [] changes

abbrev pub list_after : List TableChange → List Listed
list_after changes = fold list_with_change [] changes

-- the priority that a change is at; one of all priorities is at none
abbrev pub priority_changed : TableChange → Option ℤ
priority_changed (Added hook new) = Some new.priority
priority_changed (Removed hook priority callback) = Some priority
priority_changed (RemovedAll hook priority) = priority
