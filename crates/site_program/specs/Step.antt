-- What the site does at a line.
use Rattle.std.specs.Prelude.{◌≡◌, ℕ, ◌+◌, ◌-◌, ◌&&◌, Bool, true, false, nat_le, List, length, Option, None, Some, is_none, is_some, position}
use Rattle.std.specs.Prelude.{if◌then◌else◌}
use Rattle.hook_meaning.specs.Meaning.{Engine}
use Rattle.hook_changes.specs.declared.reply.Call.{Call}
use Rattle.hook_changes.specs.declared.reply.Reply.{Reply}
use Rattle.post_tables.specs.Rows.{Rows}
use Rattle.site_commands.specs.Asked.{Asked}
use Rattle.site_commands.specs.Asked as asked
use Rattle.site_commands.specs.Worked.{line_command}
use Rattle.site_replies.specs.declared.reply.Refusal.TheVariants.{BadCommand, TooLarge, OutOfMemory, Store, NoSuchPage, TooManyPages}
use Rattle.site_program.specs.declared.setup.Setup.{Setup}
use Rattle.site_program.specs.Site.{engine_of, calls_of}
use Rattle.site_program.specs.Requests.{Opened, request, requested}
use Rattle.site_program.specs.State.{State, page_in, with_page, without_page, after_turns}
use Rattle.site_edits.specs.Edits.{put, edit, delete, set_option, set_active}
use Rattle.site_edits.specs.Templates.{set_template}
use Rattle.site_edits.specs.Imports.{import}
use Rattle.site_edits.specs.Late.{may_be_late, rests_on_rows}
use Rattle.site_replies.specs.Reply.{ReplyData, done_id, refused}

-- the most bytes that a path may have
abbrev pub max_path : ℕ
max_path = 8192

-- `get`: the page, unless its path is too long
unfoldable pub got : Engine → ℕ → Rows → List ℕ → Rows × ReplyData
got engine calls rows path = if nat_le (length path) max_path then (rows, request engine calls rows path) else (rows, refused TooLarge)

-- a page opens in the first free place, if there is one
abbrev pub opened_in : Option ℕ → Opened → State → State × ReplyData
opened_in None page site = (site, refused TooManyPages)
opened_in (Some place) page site = (with_page site place (Some page), done_id (place + 1))

-- `begin`: the page of the path opens, over the site as it is, unless its path is too long
unfoldable pub begun : Engine → ℕ → State → List ℕ → State × ReplyData
begun engine calls site path =
    if nat_le (length path) max_path then opened_in (position is_none site.pages) (requested engine calls site.rows path) site else (site, refused TooLarge)

-- the page in a place is given that many turns, if one is open there
abbrev pub turned_in : ℕ → Option Opened → ℕ → State → State × ReplyData
turned_in place None count site = (site, refused NoSuchPage)
turned_in place (Some page) count site = (with_page site place (after_turns count page).0, (after_turns count page).1)

-- `turns`: the page of that number is given that many turns
unfoldable pub turned : State → (page count : ℕ) → State × ReplyData
turned site page count = turned_in (page - 1) (page_in (page - 1) site.pages) count site

-- the site with other rows
abbrev pub over_rows : State → Rows × ReplyData → State × ReplyData
over_rows site p = (record site { rows = p.0 }, p.1)

-- the site after a command, and the reply
abbrev pub carried_out : Engine → ℕ → State → Option Asked → State × ReplyData
carried_out engine calls site None = (site, refused BadCommand)
carried_out engine calls site (Some (asked.put kind status title content date)) = over_rows site (put site.rows kind status title content date)
carried_out engine calls site (Some (asked.edit id status title content date)) =
    over_rows site (edit site.rows id (record { status = status; title = title; content = content; date = date }))
carried_out engine calls site (Some (asked.delete id)) = over_rows site (delete site.rows id)
carried_out engine calls site (Some (asked.option name value)) = over_rows site (set_option site.rows name value)
carried_out engine calls site (Some (asked.activate plugin)) = over_rows site (set_active engine.plugins site.rows plugin true)
carried_out engine calls site (Some (asked.deactivate plugin)) = over_rows site (set_active engine.plugins site.rows plugin false)
carried_out engine calls site (Some (asked.template name body)) = over_rows site (set_template site.rows name body)
carried_out engine calls site (Some (asked.import file)) = over_rows site (import engine.plugins site.rows file)
carried_out engine calls site (Some (asked.get path)) = over_rows site (got engine calls site.rows path)
carried_out engine calls site (Some (asked.begin path)) = begun engine calls site path
carried_out engine calls site (Some (asked.turns page count)) = turned site page count

-- the site after a line, and the reply
unfoldable pub step : Engine → ℕ → State → List ℕ → State × ReplyData
step engine calls site line = carried_out engine calls site (line_command line)

-- the place of the page that a command gives turns to
abbrev pub place_given : Option Asked → Option ℕ
place_given (Some (asked.turns page count)) = Some (page - 1)
place_given _ = None

-- the same, of a line
abbrev pub place_turned : List ℕ → Option ℕ
place_turned line = place_given (line_command line)

-- whether a command may change rows
abbrev pub is_edit : Option Asked → Bool
is_edit None = false
is_edit (Some (asked.get path)) = false
is_edit (Some (asked.begin path)) = false
is_edit (Some (asked.turns page count)) = false
is_edit (Some _) = true

-- whether a command changes nothing
abbrev pub is_look : Option Asked → Bool
is_look (Some (asked.get path)) = true
is_look _ = false

-- Whether a refusal by the database may replace this reply to a command: to an edit as `may_be_late` says; to a command that
-- only reads rows if there is a limit on the steps of a statement; never to `turns`, which runs no statement.
abbrev pub may_be_late_at : Option Asked → Option ℕ → ReplyData → Bool
may_be_late_at None limit reply = false
may_be_late_at (Some (asked.get path)) limit reply = is_some limit && rests_on_rows reply
may_be_late_at (Some (asked.begin path)) limit reply = is_some limit && rests_on_rows reply
may_be_late_at (Some (asked.turns page count)) limit reply = false
may_be_late_at (Some _) limit reply = may_be_late limit reply

-- what is left if memory runs out, of a line that gives turns to the page in this place, or to none
pub data IsLeftBy (place : Option ℕ) (old new : State) : Type 0 where
  -- all is as it was
  unchanged : new ≡ old → IsLeftBy place old new
  -- the page is closed, and nothing else has changed
  closed : new ≡ without_page place old → IsLeftBy place old new

-- The reply to a line, and the site after it.
pub data IsReply (steps : State → List ℕ → State × ReplyData) (old : State) (line : List ℕ) (reply : ReplyData) (new : State) : Type 0 where
  -- they are what the line means
  meant : (new, reply) ≡ steps old line → IsReply steps old line reply new
  -- memory ran out, and at most the page that the line gives turns to is closed
  out_of_memory : reply ≡ refused OutOfMemory → IsLeftBy (place_turned line) old new → IsReply steps old line reply new
  -- The database refused it, and all is as it was: in place of the `ok` of an edit or, with a limit on the steps of a
  -- statement, of any reply that rests on the rows.
  by_the_database : reply ≡ refused Store → new ≡ old → may_be_late_at (line_command line) old.rows.step_limit (steps old line).1 ≡ true
      → IsReply steps old line reply new

-- the steps of a site with this setup
abbrev pub steps_of : {S : Type 0} → (ℕ → Call → Reply) → (S → ℕ) → Setup S → State → List ℕ → State × ReplyData
steps_of says number setup = step (engine_of says number setup) (calls_of setup)
