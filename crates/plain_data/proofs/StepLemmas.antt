-- If the last step found something, so did each step before it.
use Rattle.std.proofs.Common.{◌≡◌, Bool, true, false, Option, Some, None, refl}
use Rattle.std.proofs.lemmas.Option.{none-some, same_Some}
use Rattle.plain_data.specs.Steps.{◌>>=◌, only_if}

-- the result of several steps, step by step
pub bind_some : {A B : Type 0} (o : Option A) (f : A → Option B) (y : B) → (o >>= f) ≡ Some y → (x : A) × (o ≡ Some x) × (f x ≡ Some y)
bind_some None f y e = absurd (none-some y e)
bind_some (Some x) f y e = (x, refl, e)

pub only_if-some : {X : Type 0} (b : Bool) (x y : X) → only_if b x ≡ Some y → (b ≡ true) × (x ≡ y)
only_if-some true x y e = (refl, same_Some x y e)
only_if-some false x y e = absurd (none-some y e)
