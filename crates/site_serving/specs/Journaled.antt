-- What serving notes in a journal, and what it lets out of it.
use Rattle.std.specs.Prelude.{◌≡◌, ◌⊎◌, Bool, true, false, ℕ, List, [], ◌∷◌, ◌++◌, Option, Some, Result, OnOk, IfSome}
use Rattle.std.specs.Io.KnownBytes.{Appends, append_known}
use Rattle.byte_io.specs.Known.{AppendsFront}
use Rattle.byte_io.specs.Journal.{Grows, IsFront}
use Rattle.byte_io.specs.Journal as journals
use Rattle.byte_io.specs.declared.journal.Journal.{Ghosts}
use Rattle.site_replies.specs.Reply.{ReplyData}
use Rattle.site_serving.specs.Served.{Replied, Serves, lines_in, written_for, history_of}
use Rattle.site_serving.specs.Lines.{lines_of}

-- what is noted of a line
abbrev pub noted_of : Bool → List ℕ → List (List ℕ)
noted_of true line = line ∷ []
noted_of false line = []

module _ {J : Type 0} (g : Ghosts J) where
  -- nothing waits in an open journal: all replies that were taken are written, and all lines that were noted are committed
  abbrev pub IsSettled : J → Type 0
  IsSettled = journals.IsSettled g.written g.contents g.is_open g.may_hold g.noted

  abbrev pub IsQuiet : J → J → Type 0
  IsQuiet = journals.IsQuiet g.written g.contents g.is_open g.may_hold

  abbrev pub LetsOut : Option (List (List ℕ)) → J → J → Type 0
  LetsOut = journals.LetsOut g.written g.contents g.is_open g.may_hold

  -- the lines were noted and a reply taken after them, or a call failed on the way: for private clauses
  pub record Enters {E : Type 0} (more : List (List ℕ)) (old new : J) (result : Result (Unit {0}) E) : Type 0 where
    pub meant : Option (List (List ℕ))
    pub grows : Grows (g.noted old) meant more
    pub noted : OnOk result (Grows meant (g.noted new) [])
    pub stays : g.is_open old → OnOk result (g.is_open new)
    pub out : LetsOut meant old new

  -- `keeps` says which lines the history has
  module _ (keeps : Replied → Bool) where
    -- The log holds what was noted before and then the edits that were done at some first lines, and no others; and what
    -- was written is a front of the replies to these very lines.
    pub record IsAhead (old new : J) (replied : List Replied) (held : List (List ℕ)) : Type 0 where
      -- the first lines that were served, and those after them
      pub front : List Replied
      pub back : List Replied
      pub whole : front ++ back ≡ replied
      -- the log holds what was noted before, and then the edits that were done at the first lines
      pub edits : Grows (g.noted old) (Some held) (history_of keeps front)
      -- what was written is the beginning of the replies to them
      pub written : AppendsFront (g.written old) (g.written new) (written_for front)

    -- The log holds what it held and nothing was written; or it holds what was noted before and then the edits that were done
    -- at some first lines, and what was written is a front of what was taken before and of the replies to these lines.
    abbrev pub GoesAhead : J → J → List Replied → List (List ℕ) → Type 0
    GoesAhead old new replied held =
        (g.may_hold old held × (g.written new ≡ g.written old))
        ⊎ ((front : List Replied) × (back : List Replied) × (front ++ back ≡ replied) × Grows (g.noted old) (Some held) (history_of keeps front)
        × (IsFront (g.written old) (g.contents old) → IsFront (g.written new) (append_known (g.contents old) (written_for front))))

    -- what was let out of an open journal while some lines were served; what was written stays a front of what was taken
    pub record Outgoing (old new : J) (replied : List Replied) : Type 0 where
      pub front : IsFront (g.written old) (g.contents old) → IsFront (g.written new) (g.contents new)
      pub writes : (more : List ℕ) × Appends (g.written old) (g.written new) more
      pub ahead : g.is_open old → (held : List (List ℕ)) → g.may_hold new held → GoesAhead old new replied held

    module _ {X : Type 0} (replies : X → List ℕ → ReplyData → X → Type 0) where
      -- an input was served whole: the replies to its lines were taken, and the edits that were done are noted
      pub record IsNoted (site : X) (given : Option (List ℕ)) (old new : J) (after : X) : Type 0 where
        pub replied : List Replied
        pub served : Serves replies site replied after
        pub whole : IfSome given (λ input. lines_of input ≡ lines_in replied)
        pub taken : Appends (g.contents old) (g.contents new) (written_for replied)
        pub noted : Grows (g.noted old) (g.noted new) (history_of keeps replied)

      -- The first lines of the input were served; and whatever the log is found to hold, it is not older than what was
      -- written.
      pub record KeepsAhead (site : X) (given : Option (List ℕ)) (old new : J) (after : X) : Type 0 where
        pub replied : List Replied
        pub served : Serves replies site replied after
        pub first : IfSome given (λ input. (further : List (List ℕ)) × (lines_of input ≡ lines_in replied ++ further))
        pub ahead : (held : List (List ℕ)) → g.may_hold new held → IsAhead old new replied held
