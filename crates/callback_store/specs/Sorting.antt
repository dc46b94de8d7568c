-- A list put in order.
use Rattle.std.specs.Prelude.{Bool, List, [], ◌∷◌, if◌then◌else◌}

-- after those that come before it, and before the others
abbrev pub with_placed : {X : Type 0} → (X → X → Bool) → X → List X → List X
with_placed before x [] = x ∷ []
with_placed before x (y ∷ ys) = if before y x then y ∷ with_placed before x ys else x ∷ y ∷ ys

-- in order; items of which neither comes before the other stay in their order
abbrev pub in_order : {X : Type 0} → (X → X → Bool) → List X → List X
in_order before [] = []
in_order before (x ∷ xs) = with_placed before x (in_order before xs)
