-- Steps of which each may find nothing, as `?` has them.
use Rattle.std.specs.Prelude.{Bool, true, false, Option, Some, None}

-- one step after another: nothing, if the first finds nothing
infixl 10 ◌>>=◌
abbrev pub ◌>>=◌ : {A B : Type 0} → Option A → (A → Option B) → Option B
None >>= f = None
(Some x) >>= f = f x

-- x, if the test passes
abbrev pub only_if : {X : Type 0} → Bool → X → Option X
only_if true x = Some x
only_if false x = None
