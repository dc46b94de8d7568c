-- Numbers on either side of a priority.
use Rattle.std.proofs.Common.{◌≡◌, ℤ, true, false, refl, arith}
use Rattle.std.specs.Prelude.{int_lt}
use Rattle.std.specs.Ordering.{int_eq}
use Rattle.std.proofs.lemmas.Bool.Decides.{Decides-int_eq}
use Rattle.std.proofs.lemmas.Int.{ints}

pub below_away : (p z : ℤ) → int_lt z p ≡ true → int_eq z p ≡ false
below_away p z h = elim (int_eq z p) as (λ b. int_eq z p ≡ b → b ≡ false)
    [ true ↦ λ e. let same : z ≡ p = (Decides-int_eq z p).0 e in grind (arith, ints) | false ↦ λ e. refl ] refl

pub above_away : (p z : ℤ) → int_lt p z ≡ true → int_eq z p ≡ false
above_away p z h = elim (int_eq z p) as (λ b. int_eq z p ≡ b → b ≡ false)
    [ true ↦ λ e. let same : z ≡ p = (Decides-int_eq z p).0 e in grind (arith, ints) | false ↦ λ e. refl ] refl
