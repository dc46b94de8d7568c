-- What one frame does to its connection.
use Rattle.std.specs.Prelude.{◌≡◌, ◌||◌, ◌==◌, ℕ, Bool, true, false, List, [], ◌++◌, All, flat_map, length, Result, OnOk}
use Rattle.http.specs.declared.request.Request.{Request}
use Rattle.http_streams.specs.Losses.{StopsAtALoss}
use Rattle.http_server.specs.declared.connection.Connection.{Connection}
use Rattle.http_server.specs.declared.response.Response.{Response}
use Rattle.http_server.specs.Connection.{config_of, history}
use Rattle.http_server.specs.Exchange.{Call}
use Rattle.http_server.specs.Rounds.{Round, Rounds, all_of, kept_of, IsCleared}
use Rattle.http_streams.specs.Deeds.{pieces_bytes}

-- From one state to another a connection took bytes from the front of these, its calls were made, and pieces of what it had
-- to send were appended to the output. After `Ok` each round was committed.
pub record IsPart {S E : Type 0} (answers : S → Request (List ℕ) → Response → S → Type 0) (settles : S → Bool → S → Type 0)
    (number : ℕ) (bytes : List ℕ) (old new : Connection) (before after : S) (out_before out_after : List ℕ) (result : Result (Unit {0}) E) : Type 0 where
  pub taken : List ℕ
  pub left : List ℕ
  pub rounds : List (Round Call)
  pub pieces : List (List ℕ)
  pub cut : bytes ≡ taken ++ left
  pub received : (history new).received ≡ (history old).received ++ taken
  pub sent : (history new).sent ≡ (history old).sent ++ flat_map (λ piece. piece) pieces
  pub calls : (history new).calls ≡ (history old).calls ++ all_of rounds
  pub output : out_after ≡ out_before ++ pieces_bytes number pieces
  pub served : Rounds answers settles before rounds after
  pub stops : StopsAtALoss rounds
  pub kept : OnOk result (All (λ r. r.1 ≡ true) rounds)
  pub all : OnOk result (((history new).ended ≡ ((history old).ended || length bytes == 0)) × ((history old).ended ≡ false → left ≡ []))
  pub cleared : IsCleared ((history old).calls ++ kept_of rounds) new
  pub config : config_of new ≡ config_of old
