-- What serving one client means: which requests its bytes are, and which bytes answer them.
use Rattle.std.specs.Prelude.{◌≡◌, ℕ, Bool, List, Option, Result, OnOk}
use Rattle.std.specs.Io.KnownBytes.{Appends, Consumes}
use Rattle.std.specs.declared.io.Error.{Error}
use Rattle.http.specs.declared.request.Request.{Request}
use Rattle.http_server.specs.declared.connection.Connection.{Connection}
use Rattle.http_server.specs.declared.response.Response.{Response}
use Rattle.http_server.specs.declared.state.Config.{Config}
use Rattle.http_server.specs.Connection.{history}
use Rattle.http_server.specs.Exchange.{Call}
use Rattle.http_server.specs.History.{IsServed}
use Rattle.http_server.specs.Rounds.{Round, Rounds, all_of, kept_of, IsCleared}
use Rattle.http_streams.specs.Ends.{EndsWell}
use Rattle.http_streams.specs.Losses.{StopsAtALoss, TellsALoss}

-- A connection read these bytes and wrote these. What it read is the requests of its calls, and then what its state says;
-- what it wrote is the responses to them, in order (`IsServed`). The calls are rounds, from the site as it was to the site
-- as it is, of which only the last may be lost, and that is told; and no byte that was written tells of a call that was not
-- committed. After `Ok` it came to its end, and memory didn't run out for it.
pub record IsServedTo {S : Type 0} (answers : S → Request (List ℕ) → Response → S → Type 0) (settles : S → Bool → S → Type 0)
    (config : Config) (given left before after : Option (List ℕ)) (result : Result (Unit {0}) Error) (old new : S) : Type 0 where
  pub connection : Connection
  pub served : ∥ IsServed config (history connection) ∥₁
  pub read : Consumes given left (history connection).received
  pub written : Appends before after (history connection).sent
  pub rounds : List (Round Call)
  pub calls : (history connection).calls ≡ all_of rounds
  pub answered : Rounds answers settles old rounds new
  pub cleared : IsCleared (kept_of rounds) connection
  pub stops : StopsAtALoss rounds
  pub told : TellsALoss rounds result
  pub ended : OnOk result (EndsWell (history connection))
