-- The entries of one priority, in the order of adding (Code Reference, add_filter).
use Rattle.std.specs.Prelude.{◌≡◌, ℕ, Bool, ◌==◌, List, [], ◌∷◌, if◌then◌else◌}
use Rattle.std.specs.List.{list_any}
use Rattle.hook_registry.specs.declared.registration.Entry.{Entry}

abbrev pub is_by : ℕ → Entry → Bool
is_by callback e = e.callback == callback

-- an entry of that callback keeps its place and takes the new accepted count; another one goes last
abbrev pub with_entry : List Entry → Entry → List Entry
with_entry [] new = new ∷ []
with_entry (e ∷ es) new = if e.callback == new.callback then record e { accepted = new.accepted } ∷ es else e ∷ with_entry es new

-- whether a callback is among some
abbrev pub is_among : List ℕ → ℕ → Bool
is_among callbacks c = list_any (λ other. c == other) callbacks

-- the callbacks that have an entry are these, in any order
abbrev pub AreCallbacksOf : List ℕ → List Entry → Type 0
AreCallbacksOf callbacks es = (c : ℕ) → is_among callbacks c ≡ list_any (is_by c) es
