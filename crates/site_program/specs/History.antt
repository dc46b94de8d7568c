-- A site as its history: the edits that were done, in order.
use Rattle.std.specs.Prelude.{ℕ, Bool, ◌&&◌, List, Option}
use Rattle.hook_meaning.specs.Meaning.{Engine}
use Rattle.post_tables.specs.Rows.{Rows}
use Rattle.site_commands.specs.Worked.{line_command}
use Rattle.site_replies.specs.Reply.{ReplyData}
use Rattle.site_edits.specs.Late.{is_done}
use Rattle.site_serving.specs.Served as serving
use Rattle.site_serving.specs.Served.{Replied}
use Rattle.site_program.specs.State.{State, empty_under}
use Rattle.site_program.specs.Step.{IsReply, is_edit, step}

-- whether a line stands in the history: it is an edit, and the reply is its `ok`
abbrev pub is_kept : Replied → Bool
is_kept r = is_edit (line_command r.line) && is_done r.reply

-- the history, with its replies and without
abbrev pub kept_history : List Replied → List Replied
kept_history = serving.kept_of is_kept

abbrev pub history : List Replied → List (List ℕ)
history = serving.history_of is_kept

-- ---- what lines leave

module _ (steps : State → List ℕ → State × ReplyData) where
  -- the site after some lines, with these replies; memory or the database may have refused any of the lines
  abbrev pub Serves : State → List Replied → State → Type 0
  Serves = serving.Serves (IsReply steps)

  -- the site after some lines, of which memory and the database refuse none
  abbrev pub site_after : State → List (List ℕ) → State
  site_after = serving.state_after steps

  -- and its replies
  abbrev pub replies_to : State → List (List ℕ) → List Replied
  replies_to = serving.replies_to steps

-- the rows that lines make of the empty site, under a limit on the steps of a statement or none
abbrev pub rows_after : Engine → ℕ → Option ℕ → List (List ℕ) → Rows
rows_after engine calls limit lines = (site_after (step engine calls) (empty_under limit) lines).rows
