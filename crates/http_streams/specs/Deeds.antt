-- Many connections on one stream of frames: what was done, frame by frame.
use Rattle.std.specs.Prelude.{◌≡◌, ℕ, nat_eq, List, [], ◌++◌, filter, flat_map}
use Rattle.http_streams.specs.Frame.{FrameData, frame_bytes}
use Rattle.http_server.specs.declared.connection.Connection.{Connection}
use Rattle.http_server.specs.declared.state.Config.{Config}
use Rattle.http_server.specs.Connection.{config_of, history}
use Rattle.http_server.specs.Exchange.{Call}
use Rattle.http_server.specs.Rounds.{Round, all_of, kept_of, IsCleared}

-- what was done for one frame
pub record Deed : Type 0 where
  pub frame : FrameData
  -- of its bytes, those that its connection took
  pub taken : List ℕ
  -- the calls that were made then
  pub rounds : List (Round Call)
  -- the pieces that were sent to its client then
  pub sent : List (List ℕ)

-- the bytes of a piece that is sent
abbrev pub piece_bytes : ℕ → List ℕ → List ℕ
piece_bytes number piece = frame_bytes (record { connection = number; bytes = piece })

-- the pieces, as they stand in the output
abbrev pub pieces_bytes : ℕ → List (List ℕ) → List ℕ
pieces_bytes number pieces = flat_map (piece_bytes number) pieces

-- ---- all deeds

abbrev pub frames_of : List Deed → List ℕ
frames_of deeds = flat_map (λ d. frame_bytes d.frame) deeds

abbrev pub output_of : List Deed → List ℕ
output_of deeds = flat_map (λ d. pieces_bytes d.frame.connection d.sent) deeds

abbrev pub rounds_of : List Deed → List (Round Call)
rounds_of deeds = flat_map (λ d. d.rounds) deeds

-- a connection takes bytes from the front of a frame
abbrev pub IsTaken : Deed → Type 0
IsTaken d = (left : List ℕ) × (d.frame.bytes ≡ d.taken ++ left)

-- ---- those of one connection

abbrev pub deeds_of : ℕ → List Deed → List Deed
deeds_of number deeds = filter (λ d. nat_eq d.frame.connection number) deeds

abbrev pub taken_by : ℕ → List Deed → List ℕ
taken_by number deeds = flat_map (λ d. d.taken) (deeds_of number deeds)

abbrev pub sent_by : ℕ → List Deed → List ℕ
sent_by number deeds = flat_map (λ d. flat_map (λ piece. piece) d.sent) (deeds_of number deeds)

abbrev pub calls_by : ℕ → List Deed → List Call
calls_by number deeds = flat_map (λ d. all_of d.rounds) (deeds_of number deeds)

abbrev pub kept_by : ℕ → List Deed → List Call
kept_by number deeds = flat_map (λ d. kept_of d.rounds) (deeds_of number deeds)

-- what a connection read, called and sent is what the deeds of its number say; and no byte that was sent tells of a call that
-- was not committed
pub record IsSession (config : Config) (number : ℕ) (deeds : List Deed) (c : Connection) : Type 0 where
  pub config_is : config_of c ≡ config
  pub received : (history c).received ≡ taken_by number deeds
  pub sent : (history c).sent ≡ sent_by number deeds
  pub calls : (history c).calls ≡ calls_by number deeds
  pub cleared : IsCleared (kept_by number deeds) c

-- nothing was done for the number
pub record IsUntouched (number : ℕ) (deeds : List Deed) : Type 0 where
  pub taken : taken_by number deeds ≡ []
  pub sent : sent_by number deeds ≡ []
  pub calls : calls_by number deeds ≡ []
  pub kept : kept_by number deeds ≡ []
