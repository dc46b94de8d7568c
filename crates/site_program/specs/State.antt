-- A site as its commands find it and leave it: what is stored, and the pages that are open.
use Rattle.std.specs.Prelude.{ℕ, ◌-◌, List, [], ◌∷◌, Option, None, Some, nat_lt, slice_index_or, slice_set, if◌then◌else◌}
use Rattle.post_tables.specs.Rows.{Rows, no_rows}
use Rattle.site_replies.specs.Reply.{ReplyData, done}
use Rattle.site_program.specs.Requests.{Opened}

-- the places of open pages, of which there are eight: page n is in place n - 1
abbrev pub Places : Type 0
Places = List (Option Opened)

-- no page is open
abbrev pub no_pages : Places
no_pages = None ∷ None ∷ None ∷ None ∷ None ∷ None ∷ None ∷ None ∷ []

-- the page in a place, if one is open there
abbrev pub page_in : ℕ → Places → Option Opened
page_in place pages = slice_index_or pages place None

-- a site: its rows, and the pages in its eight places
pub record State : Type 0 where
  pub rows : Rows
  pub pages : Places

-- nothing is stored, no plugin is active and no page is open, under a limit on the steps of a statement or none
abbrev pub empty_under : Option ℕ → State
empty_under limit = record { rows = record no_rows { step_limit = limit }; pages = no_pages }

-- the same without a limit, as a site begins
abbrev pub empty_site : State
empty_site = empty_under None

-- the site with another page in a place
abbrev pub with_page : State → ℕ → Option Opened → State
with_page site place page = record site { pages = slice_set site.pages place page }

-- an open page after that many turns, if it is still open, and the reply
abbrev pub after_turns : ℕ → Opened → Option Opened × ReplyData
after_turns count page = if nat_lt count page.left then (Some (record page { left = page.left - count }), done) else (None, page.answer)

-- the site without the page in a place
abbrev pub without_page : Option ℕ → State → State
without_page None site = site
without_page (Some place) site = with_page site place None
