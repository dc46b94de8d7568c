-- Numbers in decimal digits.
use Rattle.std.specs.Prelude.{ℕ, ◌+◌, ◌-◌, ◌*◌, nat_le, ◌&&◌, Bool, if◌then◌else◌, List, [], ◌∷◌, Option, Some, None}

-- an ASCII digit
abbrev pub is_digit : ℕ → Bool
is_digit b = nat_le 48 b && nat_le b 57

-- the number that the digits spell, after those of n
abbrev pub number_from : ℕ → List ℕ → Option ℕ
number_from n [] = Some n
number_from n (b ∷ bs) = if is_digit b then number_from (10 * n + (b - 48)) bs else None

-- the number that digits alone spell in decimal
abbrev pub number : List ℕ → Option ℕ
number = number_from 0
