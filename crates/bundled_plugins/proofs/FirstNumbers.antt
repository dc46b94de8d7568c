-- The numbers of the bundle, and after them those of `snippets`.
use Rattle.std.proofs.Common.{◌≡◌, Bool, true, false, take, drop, refl}
use Rattle.bundled_plugins.specs.Bundle as bundled
use Rattle.bundled_plugins.specs.Program.{numbers}
use Rattle.snippets.specs.Snippets as snippets

pub first_numbers : (with_snippets : Bool) → take 31 (numbers with_snippets) ≡ bundled.numbers
first_numbers true = refl
first_numbers false = refl

pub last_numbers : drop 31 (numbers true) ≡ snippets.numbers
last_numbers = refl
