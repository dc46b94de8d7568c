-- What serving an input over a site notes in a journal: as serving any lines does, with what a line means to a site.
use Rattle.std.specs.Prelude.{ℕ, List, Option}
use Rattle.byte_io.specs.declared.journal.Journal.{Ghosts}
use Rattle.site_replies.specs.Reply.{ReplyData}
use Rattle.site_serving.specs.Journaled as serving
use Rattle.site_program.specs.History.{is_kept}
use Rattle.site_program.specs.State.{State}
use Rattle.site_program.specs.Step.{IsReply}

module _ {J : Type 0} (g : Ghosts J) (steps : State → List ℕ → State × ReplyData) where
  -- an input was served whole: the replies to its lines were taken, and the edits that were done are noted
  abbrev pub IsNoted : State → Option (List ℕ) → J → J → State → Type 0
  IsNoted = serving.IsNoted g is_kept (IsReply steps)

  -- the first lines of the input were served, and whatever the log is found to hold, it is not older than what was written
  abbrev pub KeepsAhead : State → Option (List ℕ) → J → J → State → Type 0
  KeepsAhead = serving.KeepsAhead g is_kept (IsReply steps)
