-- A pass over plans that change meanwhile, for a worked case.
use Rattle.std.specs.Prelude.{ℕ, zero, suc, ℤ, pos, List, [], ◌∷◌, fold, codes, Option, None, option_map}
use Rattle.hook_changes.specs.declared.reply.Change.{Change}
use Rattle.hook_changes.specs.declared.reply.Change.TheVariants.{Add, Remove}
use Rattle.hook_registry.specs.declared.registration.Entry.{Entry}
use Rattle.hook_registry.specs.Table.{Table}
use Rattle.call_plans.specs.declared.position.Position.{Position}
use Rattle.call_plans.specs.Changes.{table_after_change}
use Rattle.call_plans.specs.Position.{next_entry}

abbrev pub the_title : List ℕ
the_title = codes "the_title"

-- before the first priority
abbrev pub at_start : Position
at_start = record { hook = the_title; reached = None; entries = [] }

abbrev pub add_title : ℕ → ℤ → Change
add_title callback priority = Add the_title priority callback 1

abbrev pub remove_title : ℕ → ℤ → Change
remove_title callback priority = Remove the_title priority callback

abbrev pub after_all : Table → List Change → Table
after_all table changes = fold table_after_change table changes

-- the callbacks of the next n steps of a pass
abbrev pub steps : ℕ → Table → Position → List (Option ℕ)
steps zero table position = []
steps (suc n) table position = option_map (λ (e : Entry). e.callback) (next_entry table position).0 ∷ steps n table (next_entry table position).1

-- where the pass is after them
abbrev pub position_after : ℕ → Table → Position → Position
position_after zero table position = position
position_after (suc n) table position = position_after n table (next_entry table position).1

-- callbacks 1 and 2 at priority 10
abbrev pub table_before : Table
table_before = after_all [] (add_title 1 (pos 10) ∷ add_title 2 (pos 10) ∷ [])

-- 1 moves after 2, 3 comes after both, and 4 and 5 come at a smaller and at a larger priority
abbrev pub table_meanwhile : Table
table_meanwhile = after_all table_before (remove_title 1 (pos 10) ∷ add_title 1 (pos 10) ∷ add_title 3 (pos 10) ∷ add_title 4 (pos 5) ∷ add_title 5 (pos 11)
    ∷ [])

-- 6 comes at a still larger priority
abbrev pub table_at_last : Table
table_at_last = after_all table_meanwhile (add_title 6 (pos 12) ∷ [])
