-- Which edits a log is found to hold after a run over HTTP.
use Rattle.std.specs.Prelude.{◌≡◌, ℕ, List, [], ◌∷◌, ◌++◌, Option, Some}
use Rattle.byte_io.specs.Journal.{Grows}
use Rattle.byte_io.specs.declared.journal.Journal as journals
use Rattle.http.specs.Request.{head_of, body_of}
use Rattle.http_messages.specs.Request.{WantedData, page, commands, refused, wanted_of}
use Rattle.http_server.specs.Connection.{history}
use Rattle.http_server.specs.Exchange.{Call}
use Rattle.http_server.specs.Rounds.{IsCleared, Round, all_of, kept_of}
use Rattle.http_server.specs.declared.connection.Connection.{Connection}
use Rattle.site_serving.specs.declared.commands.Commands as carrying
use Rattle.site_serving.specs.Lines.{lines_of}
use Rattle.site_serving.specs.Served.{Replied, Serves, lines_in, history_of}
use Rattle.site_http.specs.Pages.{page_line}
use Rattle.site_http.specs.declared.site_pages.SitePages.{SitePages}

-- the lines that a request asks to carry out
abbrev pub lines_wanted : WantedData → List (List ℕ)
lines_wanted (page path) = page_line path ∷ []
lines_wanted (commands lines) = lines_of lines
lines_wanted (refused fault) = []

-- of the lines that the call's request asks for the first were carried out, with these replies
pub record IsCalledWith (token : Option (List ℕ)) (call : Call) (replied : List Replied) : Type 0 where
  pub further : List (List ℕ)
  pub first : lines_wanted (wanted_of token (head_of call.0) (body_of call.0)) ≡ lines_in replied ++ further

-- the lines that were carried out at some calls, in order
abbrev pub AreLinesOf : Option (List ℕ) → List Call → List Replied → Type 0
AreLinesOf token [] replied = replied ≡ []
AreLinesOf token (call ∷ calls) replied =
    (first : List Replied) × (later : List Replied) × (replied ≡ first ++ later) × IsCalledWith token call first × AreLinesOf token calls later

-- The log holds what was noted before some rounds of calls, and then the edits that were done at the rounds that were committed, and
-- perhaps at the one that was lost.
pub record HoldsEdits {C J V : Type 0} (c : carrying.Ghosts C) (j : journals.Ghosts J) (token : Option (List ℕ)) (rounds : List (Round Call))
    (old new : SitePages C J V) (held : List (List ℕ)) : Type 0 where
  -- the calls that were not committed: those whose edits the log holds, and the others
  pub more : List Call
  pub lost : List Call
  pub calls : all_of rounds ≡ kept_of rounds ++ (more ++ lost)
  -- the lines of the calls, as they were carried out
  pub told_lines : List Replied
  pub more_lines : List Replied
  pub lost_lines : List Replied
  pub are_told : AreLinesOf token (kept_of rounds) told_lines
  pub are_more : AreLinesOf token more more_lines
  pub are_lost : AreLinesOf token lost lost_lines
  pub served : Serves (c.replies (c.fixed old.commands)) (c.state old.commands) (told_lines ++ (more_lines ++ lost_lines)) (c.state new.commands)
  -- what the log holds
  pub edits : Grows (j.noted old.journal) (Some held) (history_of c.keeps (told_lines ++ more_lines))

-- The log holds what was noted before a run, and then the edits that were done at its first calls; and all that was written
-- had been written when no further calls had been made. So no response tells of an edit that the log doesn't hold.
pub record IsAhead {C J V : Type 0} (c : carrying.Ghosts C) (j : journals.Ghosts J) (token : Option (List ℕ)) (connection : Connection)
    (old new : SitePages C J V) (held : List (List ℕ)) : Type 0 where
  -- the calls that were made when all that was written had been written, those after them whose edits the log holds, and the others
  pub told : List Call
  pub more : List Call
  pub lost : List Call
  pub calls : (history connection).calls ≡ told ++ (more ++ lost)
  pub cleared : IsCleared told connection
  -- their lines, as they were carried out
  pub told_lines : List Replied
  pub more_lines : List Replied
  pub lost_lines : List Replied
  pub are_told : AreLinesOf token told told_lines
  pub are_more : AreLinesOf token more more_lines
  pub are_lost : AreLinesOf token lost lost_lines
  pub served : Serves (c.replies (c.fixed old.commands)) (c.state old.commands) (told_lines ++ (more_lines ++ lost_lines)) (c.state new.commands)
  -- what the log holds
  pub edits : Grows (j.noted old.journal) (Some held) (history_of c.keeps (told_lines ++ more_lines))
