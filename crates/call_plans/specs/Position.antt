-- How a pass goes from entry to entry (class WP_Hook).
use Rattle.std.specs.Prelude.{ℤ, List, [], ◌∷◌, Option, None, Some}
use Rattle.hook_registry.specs.declared.registration.Entry.{Entry}
use Rattle.hook_registry.specs.Table.{Table, group, next_priority}
use Rattle.call_plans.specs.declared.position.Position.{Position}

-- the first entry of a group, and the entries after it
abbrev pub first_of : Position → List Entry → Option Entry × Position
first_of position [] = (None, record position { entries = [] })
first_of position (e ∷ es) = (Some e, record position { entries = es })

-- the group of the priority that is reached, as it is in the table now; without such a priority the position stays
abbrev pub reach : Table → Position → Option ℤ → Option Entry × Position
reach table position None = (None, position)
reach table position (Some priority) = first_of (record position { reached = Some priority }) (group table position.hook priority)

abbrev pub entry_of_left : Table → Position → List Entry → Option Entry × Position
entry_of_left table position [] = reach table position (next_priority table position.hook position.reached)
entry_of_left table position (e ∷ es) = (Some e, record position { entries = es })

-- the next entry of a pass, and where the pass then is: the first one left, or else the first at the next priority
abbrev pub next_entry : Table → Position → Option Entry × Position
next_entry table position = entry_of_left table position position.entries
