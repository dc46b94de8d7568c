-- Tokens that can be written.
use Rattle.std.proofs.Common.{ℕ, ◌<◌, zero, suc, List, [], ◌∷◌, length, map, arith}
use Rattle.std.specs.Prelude.{get_or}
use Rattle.std.specs.List.{AllByRecursion}
use Rattle.json.specs.Reads.{token_of}
use Rattle.json.specs.Print.{IsPrintable}
use Rattle.json.specs.declared.token.Token.{Token}

pub printable_at : (ts : List Token) (i : ℕ) (t : Token) → i < length ts → AllByRecursion IsPrintable (map token_of ts) → IsPrintable (token_of (get_or ts i t))
printable_at [] i t low all = absurd (omega (arith, low))
printable_at (x ∷ ts) zero t low all = all.0
printable_at (x ∷ ts) (suc i) t low all = printable_at ts i t (omega (arith, low)) all.1
