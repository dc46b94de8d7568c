-- What serving the lines in a stretch of the input does: definitions for private clauses.
use Rattle.std.specs.Prelude.{◌≡◌, ◌⊎◌, ℕ, ◌+◌, ◌<◌, Bool, List, [], ◌∷◌, ◌++◌, length, Option, Result, OnOk, OnErr, All, flat_map}
use Rattle.std.specs.Io.KnownBytes.{Appends}
use Rattle.byte_io.specs.Known.{AppendsFront}
use Rattle.byte_io.specs.Journal.{Grows}
use Rattle.byte_io.specs.declared.journal.Journal as journal
use Rattle.site_replies.specs.Reply.{ReplyData, bytes_of}
use Rattle.site_replies.specs.declared.fault.ServeFault.{ServeFault}
use Rattle.site_replies.specs.declared.fault.ServeFault.TheVariants as fault
use Rattle.site_serving.specs.Served.{Replied, Serves, lines_in, written_for, history_of}
use Rattle.site_serving.specs.Journaled.{Enters, Outgoing}
use Rattle.site_serving.specs.Lines.{lines_of, IsLine, HasNoNewline, max_line, with_newline}
use Rattle.site_serving.specs.declared.commands.Commands as commands

-- it begins with more bytes of one line than there may be
pub record IsTooLong (rest : List ℕ) : Type 0 where
  pub front : List ℕ
  pub back : List ℕ
  pub whole : front ++ back ≡ rest
  pub one : HasNoNewline front
  pub long : max_line < length front

-- The fault comes at the first byte of `rest`, if `left` more lines may come: one line too many, or too long, or memory runs
-- out.
abbrev pub ComesAt : ℕ → List ℕ → ServeFault → Type 0
ComesAt left rest fault.Read = ⊥
ComesAt left rest fault.Write = ⊥
ComesAt left rest fault.TooMuchInput = (0 < length rest) × ((left ≡ 0) ⊎ IsTooLong rest)
ComesAt left rest fault.OutOfMemory = 0 < length rest

module _ {J : Type 0} (g : journal.Ghosts J) (keeps : Replied → Bool) {X : Type 0} (replies : X → List ℕ → ReplyData → X → Type 0) where
  -- a line was carried out, and its reply entered
  pub record Handles {E : Type 0} (site : X) (line : List ℕ) (old new : J) (result : Result (Unit {0}) E) (after : X) : Type 0 where
    pub reply : ReplyData
    pub replied : replies site line reply after
    pub taken : OnOk result (Appends (g.contents old) (g.contents new) (bytes_of reply))
    pub part : OnErr result (AppendsFront (g.contents old) (g.contents new) (bytes_of reply))
    pub enters : Enters g (history_of keeps (record { line = line; reply = reply } ∷ [])) old new result

  -- Of a stretch of input the lines that end in it, of which there may be `limit`, were served; `rest` is what follows them, and
  -- `left` lines more may come.
  pub record Records (site : X) (limit : ℕ) (stretch : List ℕ) (old new : J) (after : X) (left : ℕ) (rest : List ℕ) : Type 0 where
    pub replied : List Replied
    pub served : Serves replies site replied after
    pub whole : stretch ≡ flat_map with_newline (lines_in replied) ++ rest
    pub each : All IsLine (lines_in replied)
    pub count : length replied + left ≡ limit
    pub taken : Appends (g.contents old) (g.contents new) (written_for replied)
    pub noted : Grows (g.noted old) (g.noted new) (history_of keeps replied)
    pub stays : g.is_open old → g.is_open new
    pub out : Outgoing g keeps old new replied

  -- Of any input that begins with the stretch the first lines were served, of which there may be `limit`. The reply to the last
  -- of them was not written whole.
  pub record Fails (site : X) (limit : ℕ) (stretch : List ℕ) (old new : J) (after : X) : Type 0 where
    pub done : List Replied
    pub last : Replied
    pub mid : X
    pub served : Serves replies site done mid
    pub replied : replies mid last.line last.reply after
    pub each : All IsLine (lines_in done)
    pub line : IsLine last.line
    pub count : length done < limit
    pub first : (later : List ℕ) → (further : List (List ℕ)) × (lines_of (stretch ++ later) ≡ lines_in done ++ last.line ∷ further)
    pub between : Option (List ℕ)
    pub taken : Appends (g.contents old) between (written_for done)
    pub part : AppendsFront between (g.contents new) (bytes_of last.reply)
    pub out : Outgoing g keeps old new (done ++ last ∷ [])

  -- serving stopped at some first line of the rest, after the lines before it, by a fault that is no failed write
  abbrev pub Halts : X → ℕ → List ℕ → J → J → X → ℕ → ServeFault → Type 0
  Halts site limit stretch old new after left e = (rest : List ℕ) × Records site limit stretch old new after left rest × ComesAt left rest e

-- ---- the same, of what carries out the lines

module _ {C : Type 0} (c : commands.Ghosts C) {J : Type 0} (g : journal.Ghosts J) where
  abbrev pub HandlesBy : {E : Type 0} → C → List ℕ → J → J → Result (Unit {0}) E → C → Type 0
  HandlesBy from line old new result to = Handles g c.keeps (c.replies (c.fixed from)) (c.state from) line old new result (c.state to)

  abbrev pub RecordsBy : C → ℕ → List ℕ → J → J → C → ℕ → List ℕ → Type 0
  RecordsBy from limit stretch old new to left rest =
      Records g c.keeps (c.replies (c.fixed from)) (c.state from) limit stretch old new (c.state to) left rest

  abbrev pub FailsBy : C → ℕ → List ℕ → J → J → C → Type 0
  FailsBy from limit stretch old new to = Fails g c.keeps (c.replies (c.fixed from)) (c.state from) limit stretch old new (c.state to)

  abbrev pub HaltsBy : C → ℕ → List ℕ → J → J → C → ℕ → ServeFault → Type 0
  HaltsBy from limit stretch old new to left e =
      Halts g c.keeps (c.replies (c.fixed from)) (c.state from) limit stretch old new (c.state to) left e
