-- Rounds of calls, of which only the last may be lost, and how that is told.
use Rattle.std.specs.Prelude.{◌≡◌, ◌⊎◌, ⊤, true, List, [], ◌∷◌, All, IsErrAnd, Result}
use Rattle.std.specs.IoError.{error_kind}
use Rattle.std.specs.declared.io.Error.{Error}
use Rattle.std.specs.declared.io.ErrorKind.TheVariants.{Other}
use Rattle.http_server.specs.Rounds.{Round}

-- a round that was not committed is the last
abbrev pub StopsAtALoss : {X : Type 0} → List (Round X) → Type 0
StopsAtALoss [] = ⊤
StopsAtALoss (r ∷ rounds) = ((r.1 ≡ true) ⊎ (rounds ≡ [])) × StopsAtALoss rounds

-- each round was committed, or the result is an error of the kind `Other`
pub record TellsALoss {X A : Type 0} (rounds : List (Round X)) (result : Result A Error) : Type 0 where
  pub kept_or_told : All (λ r. r.1 ≡ true) rounds ⊎ IsErrAnd result (λ e. error_kind e ≡ Other)
