-- What a log makes of a site.
use Rattle.std.specs.Prelude.{◌≡◌, ◌≢◌, ◌⊎◌, ⊤, ℕ, ◌+◌, ◌^◌, ◌<◌, ◌≤◌, Bool, List, [], ◌∷◌, ◌++◌, length, true, All}
use Rattle.sqlite.specs.Held.{Held, state}
use Rattle.sqlite.specs.State.{HasCleanDisk}
use Rattle.sqlite.specs.Store.{Ghosts}
use Rattle.sqlite.specs.Order.{Row}
use Rattle.sqlite.specs.Recovery.{Image}
use Rattle.command_log.specs.Faults.{AreText, Unstorable}
use Rattle.command_log.specs.Found.{Finds}
use Rattle.command_log.specs.Lines.{IsOpen, lines_of}
use Rattle.command_log.specs.declared.fault.LogFault.{LogFault}
use Rattle.command_log.specs.declared.fault.LogFault.TheVariants.{NotText, NumbersUsedUp}
use Rattle.site_replies.specs.Reply.{ReplyData, done, done_id, refused, number_of, name_of}
use Rattle.site_replies.specs.declared.reply.Refusal.{Refusal}
use Rattle.site_replies.specs.declared.reply.Refusal.TheVariants.{BadCommand}
use Rattle.site_serving.specs.Served.{Replied, IsCarriedOut, state_after}
use Rattle.site_start.specs.declared.fault.StartFault.{StartFault}
use Rattle.site_start.specs.declared.fault.StartFault.TheVariants.{Log, OtherProgram, Refused, NotAnEdit, NotRebuilt}

-- the lines of a log that was taken over: those that it had, of which this is the first, or this alone if it had none
abbrev pub IsTakenOver : List ℕ → (old new : List (List ℕ)) → Type 0
IsTakenOver identity [] new = new ≡ identity ∷ []
IsTakenOver identity (first ∷ later) new = (first ≡ identity) × (new ≡ first ∷ later)

-- what files with this image have once a log was taken over: the lines that they held, or this one alone if they held none
abbrev pub IsLeftBy : Image → List ℕ → List (List ℕ) → Type 0
IsLeftBy image identity lines = Finds image lines ⊎ (Finds image [] × (lines ≡ identity ∷ []))

-- the first line of a log is another one than this
abbrev pub IsOfAnother : List ℕ → List (List ℕ) → Type 0
IsOfAnother identity [] = ⊥
IsOfAnother identity (first ∷ later) = first ≢ identity

-- each line is an edit; `edits` says which lines are
abbrev pub AreEdits : (List ℕ → Bool) → List (List ℕ) → Type 0
AreEdits edits lines = All (λ line. edits line ≡ true) lines

-- after its first line a log has edits alone
abbrev pub HasEdits : (List ℕ → Bool) → List ℕ → List (List ℕ) → Type 0
HasEdits edits identity lines = (later : List (List ℕ)) × (lines ≡ identity ∷ later) × AreEdits edits later

-- An open of files with this image made the log: unless the disk has returned what was not written, it is open, and has the
-- lines that the files held.
pub record IsOpenedFrom {S : Type 0} (g : Ghosts S) (image : Image) (log : Held S) : Type 0 where
  pub opened : HasCleanDisk (state g log) → IsOpen g log
  pub finds : IsOpen g log → Finds image (lines_of g log)

-- ---- why a start failed

-- what reading lines after `count` others may meet: one isn't UTF-8, or with the others they are as many as there are numbers
abbrev pub Unread : ℕ → List (List ℕ) → LogFault → Type 0
Unread count lines NotText = ¬ AreText lines
Unread count lines NumbersUsedUp = 2 ^ 64 ≤ count + length lines
Unread count lines _ = ⊥

-- what taking a log with these lines over may meet: that, or where there is no line the identity can't be stored
abbrev pub Untaken : List ℕ → List (List ℕ) → LogFault → Type 0
Untaken identity lines fault = Unread 0 lines fault ⊎ ((lines ≡ []) × ((rows : List Row) × Unstorable rows (identity ∷ []) fault))

-- the number is n, if n has no more than 64 bits
abbrev pub IsNumber : ℕ → ℕ → Type 0
IsNumber n number = n < 2 ^ 64 → number ≡ n

-- the fault tells this reply to the n-th line: a refusal by its number and name, any other reply as one to no edit
abbrev pub Tells : ℕ → ReplyData → StartFault → Type 0
Tells n reply (Refused line number name) =
    IsNumber n line × ((refusal : Refusal) × (reply ≡ refused refusal) × (number ≡ number_of refusal) × (name.now ≡ name_of refusal))
Tells n reply (NotAnEdit line) = IsNumber n line × ((refusal : Refusal) → reply ≢ refused refusal)
Tells n reply _ = ⊥

-- the reply to an edit that was done
abbrev pub IsOk : ReplyData → Type 0
IsOk done = ⊤
IsOk (done_id id) = ⊤
IsOk _ = ⊥

-- with this reply the line was done, and the history has it: `keeps` says which lines it has
abbrev pub IsDone : (Replied → Bool) → List ℕ → ReplyData → Type 0
IsDone keeps line reply = IsOk reply × (keeps (record { line = line; reply = reply }) ≡ true)

-- each of these lines, one after the other, means an edit that is done: `steps` says what lines mean
abbrev pub AreDone : {X : Type 0} → (X → List ℕ → X × ReplyData) → (Replied → Bool) → X → List (List ℕ) → Type 0
AreDone steps keeps old [] = ⊤
AreDone steps keeps old (line ∷ lines) = IsDone keeps line (steps old line).1 × AreDone steps keeps (steps old line).0 lines

-- `replies` says which reply and which state may come of a line
module _ {X : Type 0} (steps : X → List ℕ → X × ReplyData) (replies : X → List ℕ → ReplyData → X → Type 0) (keeps : Replied → Bool) where
  -- the n-th line got another reply than was wanted, and the fault tells it
  pub record StopsAt (old : X) (n : ℕ) (line : List ℕ) (IsWanted : ReplyData → Type 0) (fault : StartFault) : Type 0 where
    pub reply : ReplyData
    pub after : X
    pub replied : replies old line reply after
    pub meant : IsCarriedOut reply → (after, reply) ≡ steps old line
    pub other : ¬ IsWanted reply
    pub told : Tells n reply fault

  -- of these lines, which follow `count` others, those before one were edits that were done, and that one wasn't
  pub record StopsAmong (old : X) (count : ℕ) (lines : List (List ℕ)) (fault : StartFault) : Type 0 where
    pub before : List (List ℕ)
    pub line : List ℕ
    pub later : List (List ℕ)
    pub whole : lines ≡ before ++ line ∷ later
    pub all : AreDone steps keeps old before
    pub stops : StopsAt (state_after steps old before) (count + length before + 1) line (IsDone keeps line) fault

  -- of the lines of a log that was taken over the first, the identity, wasn't refused as no command; or a later one is that
  pub record StopsWithin (old : X) (identity : List ℕ) (lines : List (List ℕ)) (fault : StartFault) : Type 0 where
    pub later : List (List ℕ)
    pub taken : IsTakenOver identity lines (identity ∷ later)
    pub stops : StopsAt old 1 identity (λ reply. reply ≡ refused BadCommand) fault ⊎ StopsAmong (steps old identity).0 1 later fault

  -- why a start from these lines failed; `OfLog` says which faults of the log it met
  abbrev pub IsStartFault : (LogFault → Type 0) → X → List ℕ → List (List ℕ) → StartFault → Type 0
  IsStartFault OfLog old identity lines (Log fault) = OfLog fault
  IsStartFault OfLog old identity lines OtherProgram = IsOfAnother identity lines
  IsStartFault OfLog old identity lines NotRebuilt = ⊥
  IsStartFault OfLog old identity lines fault = StopsWithin old identity lines fault

  -- why carrying out the lines after the first failed: for private clauses
  abbrev pub IsReplayFault : (LogFault → Type 0) → X → List (List ℕ) → StartFault → Type 0
  IsReplayFault OfLog old lines (Log fault) = OfLog fault
  IsReplayFault OfLog old lines fault = StopsAmong old 1 lines fault

  -- why a start from files with this image failed, where a line that they hold is the cause
  pub record IsRefusedStart (image : Image) (old : X) (identity : List ℕ) (fault : StartFault) : Type 0 where
    pub held : List (List ℕ)
    pub finds : Finds image held
    pub cause : IsStartFault (λ _. ⊤) old identity held fault
