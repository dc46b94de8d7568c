-- Which edits a log is found to hold after its site was served over HTTP, and what the clients may know of.
use Rattle.std.specs.Prelude.{◌≡◌, ◌⊎◌, ℕ, Bool, true, false, List, [], ◌++◌, map, Option, Some, Result, IsErr, OnOk}
use Rattle.std.specs.Io.KnownBytes.{Appends, Consumes}
use Rattle.byte_io.specs.Journal.{Grows}
use Rattle.byte_io.specs.Known.{AppendsFront}
use Rattle.http_streams.specs.Frame.{ReadsAs}
use Rattle.http_pages.specs.declared.serve.TheConstants.{CONFIG}
use Rattle.http_streams.specs.Ends.{EndsWell}
use Rattle.http_server.specs.Connection.{history}
use Rattle.http_server.specs.Exchange.{Call}
use Rattle.http_server.specs.History.{IsServed}
use Rattle.http_server.specs.Rounds.{IsCleared, all_of, kept_of}
use Rattle.http_server.specs.declared.connection.Connection.{Connection}
use Rattle.http_streams.specs.Deeds.{Deed, output_of, rounds_of}
use Rattle.http_streams.specs.Tables.{AreKnown}
use Rattle.http_streams.specs.Taking.{AreTakenAfter}
use Rattle.site_http.specs.Ahead.{AreLinesOf}
use Rattle.site_replies.specs.Reply.{ReplyData}
use Rattle.site_serving.specs.Served.{Replied, Serves, history_of}

-- What clients sent and were sent: of the bytes that were `given` some are `left`, and what was written grew from `before` to
-- `after`. Meanwhile these calls were made, and no byte that was written tells of another than the first of them, `told`.
module _ {E : Type 0} (given left before after : Option (List ℕ)) (result : Result (Unit {0}) E) (told calls : List Call) where
  -- nobody was served, for an error
  pub record ServesNone : Type 0 where
    pub failed : IsErr result
    pub read : left ≡ given
    pub written : after ≡ before
    pub none : calls ≡ []

  -- one client was served, by one connection
  pub record ServesOne : Type 0 where
    pub connection : Connection
    pub served : ∥ IsServed CONFIG (history connection) ∥₁
    pub read : Consumes given left (history connection).received
    pub written : Appends before after (history connection).sent
    pub made : (history connection).calls ≡ calls
    pub cleared : IsCleared told connection
    pub ended : OnOk result (EndsWell (history connection))

  -- many clients were served in frames, each by a connection of its own
  pub record ServesMany : Type 0 where
    pub deeds : List Deed
    pub stretch : List ℕ
    pub rest : List ℕ
    pub read : Consumes given left stretch
    pub frames : ReadsAs stretch (map (λ d. d.frame) deeds) rest
    pub written : AppendsFront before after (output_of deeds)
    pub known : AreKnown CONFIG deeds
    pub made : all_of (rounds_of deeds) ≡ calls
    pub cleared : kept_of (rounds_of deeds) ≡ told
    pub whole : OnOk result (rest ≡ [])
    pub all_taken : OnOk result (AreTakenAfter [] deeds)
    pub all_written : OnOk result (Appends before after (output_of deeds))

  abbrev pub ServesClients : Bool → Type 0
  ServesClients true = ServesNone ⊎ ServesMany
  ServesClients false = ServesNone ⊎ ServesOne

-- What lines mean: `replies` says which reply and which state may come of one; `keeps` says which lines the history has.
module _ {X : Type 0} (replies : X → List ℕ → ReplyData → X → Type 0) (keeps : Replied → Bool) where
  -- Clients, in frames or one alone, were served by a site in the state `first`, whose log had the lines `noted`. The log is found
  -- to hold these, and then the edits that were done at the first calls. So it has each edit that a byte which was written tells of.
  pub record HoldsTold {E : Type 0} (framed : Bool) (token : Option (List ℕ)) (first : X) (noted : Option (List (List ℕ)))
      (given left before after : Option (List ℕ)) (result : Result (Unit {0}) E) (held : List (List ℕ)) : Type 0 where
    -- the calls that the log holds and that clients may know of, those after them that it holds, and the others
    pub told : List Call
    pub more : List Call
    pub lost : List Call
    pub exchanged : ServesClients given left before after result told (told ++ (more ++ lost)) framed
    -- their lines, as they were carried out
    pub told_lines : List Replied
    pub more_lines : List Replied
    pub lost_lines : List Replied
    pub are_told : AreLinesOf token told told_lines
    pub are_more : AreLinesOf token more more_lines
    pub are_lost : AreLinesOf token lost lost_lines
    pub last : X
    pub served : Serves replies first (told_lines ++ (more_lines ++ lost_lines)) last
    -- what the log holds
    pub edits : Grows noted (Some held) (history_of keeps (told_lines ++ more_lines))
    -- after a run that ended well it has all edits
    pub all : OnOk result (lost ≡ [])
