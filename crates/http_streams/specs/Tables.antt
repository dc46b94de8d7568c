-- The connections that are open, and what was done for each number.
use Rattle.std.specs.Prelude.{◌≡◌, ◌⊎◌, ℕ, ◌<◌, ◌≤◌, Bool, true, List, [], ◌∷◌, ◌++◌, All, Option, Some, Result, IfOk, OnOk, drop, length, map}
use Rattle.std.specs.BTreeMap.{btree_map_len, get}
use Rattle.std.specs.Io.KnownBytes.{Appends, Consumes}
use Rattle.std.specs.Ordering.{nat_cmp}
use Rattle.byte_io.specs.Known.{AppendsFront}
use Rattle.http.specs.declared.request.Request.{Request}
use Rattle.http_streams.specs.Frame.{FrameData, ReadsAs, front_of, part}
use Rattle.http_streams.specs.Losses.{StopsAtALoss}
use Rattle.http_server.specs.declared.connection.Connection.{Connection}
use Rattle.http_server.specs.declared.response.Response.{Response}
use Rattle.http_server.specs.declared.state.Config.{Config}
use Rattle.http_server.specs.Connection.{history}
use Rattle.http_server.specs.Rounds.{Rounds}
use Rattle.http_streams.specs.Deeds.{Deed, IsSession, IsTaken, IsUntouched, output_of, pieces_bytes, rounds_of}
use Rattle.http_streams.specs.Taking.{AllButOne, AreTakenAfter, has_ended, most_open}
use Rattle.http_streams.specs.declared.table.Table.{Table}

-- for each number nothing was done, or a connection has done what the deeds say
abbrev pub AreKnown : Config → List Deed → Type 0
AreKnown config deeds = (number : ℕ) → IsUntouched number deeds ⊎ ((c : Connection) × IsSession config number deeds c)

-- the table has the connections of these deeds that are open; no number above the last was opened
pub record IsTableOf (deeds : List Deed) (table : Table) : Type 0 where
  pub session : (number : ℕ) (c : Connection) → get nat_cmp table.connections number ≡ Some c → IsSession table.config number deeds c
  pub known : AreKnown table.config deeds
  pub kept : All (λ d. All (λ r. r.1 ≡ true) d.rounds) deeds
  pub within : (number : ℕ) (c : Connection) → get nat_cmp table.connections number ≡ Some c → number ≤ table.last
  pub unused : (number : ℕ) → table.last < number → IsUntouched number deeds
  -- the last number is one of theirs, and no more connections are open than there were frames
  pub latest : (number : ℕ) → 0 < number → All (λ d. d.frame.connection < number) deeds → table.last < number
  pub few : btree_map_len table.connections ≤ length deeds
  -- a connection ends only if its client did
  pub ends : (number : ℕ) (c : Connection) → get nat_cmp table.connections number ≡ Some c → (history c).ended ≡ true
      → has_ended number deeds ≡ true
  pub taken : AreTakenAfter [] deeds

-- no connection is made for the number, nor will be
pub record TurnsAway (old new : Table) (number : ℕ) : Type 0 where
  pub grows : old.last ≤ new.last
  pub seen : number ≤ new.last
  pub latest : (new.last ≡ old.last) ⊎ (new.last ≡ number)
  pub full : old.last < number → most_open ≤ btree_map_len old.connections

-- one frame was dealt with
pub record IsDone {S E : Type 0} (answers : S → Request (List ℕ) → Response → S → Type 0) (settles : S → Bool → S → Type 0)
    (frame : FrameData) (deeds : List Deed) (old new : Table) (before after : S) (out_before out_after : List ℕ) (result : Result (Unit {0}) E) : Type 0 where
  pub deed : Deed
  pub frame_is : deed.frame ≡ frame
  pub taken : IsTaken deed
  pub output : out_after ≡ out_before ++ pieces_bytes frame.connection deed.sent
  pub served : Rounds answers settles before deed.rounds after
  pub stops : StopsAtALoss deed.rounds
  pub kept : OnOk result (All (λ r. r.1 ≡ true) deed.rounds)
  pub known : AreKnown old.config (deeds ++ deed ∷ [])
  pub table : OnOk result (IsTableOf (deeds ++ deed ∷ []) new)

-- Some bytes were served: the frames that they begin with were dealt with, one after another. After `Ok` this is what is left of
-- the bytes, and it begins with no whole frame.
pub record IsServed {S E : Type 0} (answers : S → Request (List ℕ) → Response → S → Type 0) (settles : S → Bool → S → Type 0)
    (deeds : List Deed) (old new : Table) (before after : S) (input : List ℕ) (out_before out_after : List ℕ) (result : Result ℕ E) : Type 0 where
  pub more : List Deed
  pub rest : List ℕ
  pub read : ReadsAs input (map (λ d. d.frame) more) rest
  pub left : IfOk result (λ n. (n ≤ length input) × (drop n input ≡ rest) × (front_of rest ≡ part))
  pub taken : All IsTaken more
  pub all_but_one : AllButOne (deeds ++ more)
  pub output : out_after ≡ out_before ++ output_of more
  pub served : Rounds answers settles before (rounds_of more) after
  pub stops : StopsAtALoss (rounds_of more)
  pub known : AreKnown old.config (deeds ++ more)
  pub table : OnOk result (IsTableOf (deeds ++ more) new)

-- Many connections were served: of what was read, the frames that it begins with were dealt with, one after another. What was
-- written is what their connections sent, or its front if writing failed.
pub record ServesMany {S E : Type 0} (answers : S → Request (List ℕ) → Response → S → Type 0) (settles : S → Bool → S → Type 0)
    (config : Config) (before after : S) (in_before in_after out_before out_after : Option (List ℕ)) (result : Result (Unit {0}) E) : Type 0 where
  pub deeds : List Deed
  pub stretch : List ℕ
  pub rest : List ℕ
  pub consumed : Consumes in_before in_after stretch
  pub read : ReadsAs stretch (map (λ d. d.frame) deeds) rest
  pub whole : OnOk result (rest ≡ [])
  pub taken : All IsTaken deeds
  pub all_but_one : AllButOne deeds
  pub all_taken : OnOk result (AreTakenAfter [] deeds)
  pub served : Rounds answers settles before (rounds_of deeds) after
  pub stops : StopsAtALoss (rounds_of deeds)
  pub kept : OnOk result (All (λ r. r.1 ≡ true) (rounds_of deeds))
  pub known : AreKnown config deeds
  pub written : AppendsFront out_before out_after (output_of deeds)
  pub all : OnOk result (Appends out_before out_after (output_of deeds))
