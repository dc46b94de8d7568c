-- Lines among which no edit was done.
use Rattle.std.proofs.Common.{arith, inl, inr, ◌≡◌, ◌∙◌, ℕ, true, false, List, [], ◌∷◌, Some, refl, ap}
use Rattle.std.specs.Prelude.{codes}
use Rattle.std.specs.Str.{is_utf8}
use Rattle.std.proofs.lemmas.Bool.{cases_Bool}
use Rattle.hook_meaning.specs.Meaning.{Engine}
use Rattle.plain_data.specs.Texts.{Text}
use Rattle.json.specs.Json.{Json}
use Rattle.json.specs.Json as json
use Rattle.serde_json.specs.Data.{Data}
use Rattle.serde_json.specs.Data as tree
use Rattle.site_commands.specs.Asked.{command_of, get_of}
use Rattle.site_commands.specs.Asked as asked
use Rattle.site_commands.specs.Worked.{line_command}
use Rattle.site_http.specs.Pages.{page_line}
use Rattle.site_laws.proofs.Readings.{line-is}
use Rattle.site_program.specs.History.{Serves, history, is_kept}
use Rattle.site_program.specs.State.{State}
use Rattle.site_program.specs.Step.{step}
use Rattle.site_laws.proofs.Histories.{reply-unkept}
use Rattle.site_replies.specs.Reply.{ReplyData}
use Rattle.site_serving.specs.Served.{Replied}

-- ---- the line that asks for a page

page_json : Text → Json
page_json path =
    json.object (json.member (codes "cmd") (json.string (codes "get")) (json.member (codes "path") (json.string path) json.no_members))

page_data : Text → Data
page_data path =
    tree.object (tree.member (codes "cmd") (tree.string (codes "get")) (tree.member (codes "path") (tree.string path) tree.no_members))

page_asked : (path : Text) → command_of (page_data path) ≡ Some (asked.get path)
unfolding command_of get_of page_data
page_asked path = refl

pub page-is : (path : Text) → is_utf8 (page_line path) ≡ true → line_command (page_line path) ≡ Some (asked.get path)
unfolding page_json page_data
page-is path utf8 =
    line-is (page_line path) (page_json path) (page_data path) (asked.get path) refl utf8 (tt, (tt, tt)) (omega arith) refl (page_asked path)

-- ---- rows

-- the first of lines of which the history has none isn't kept
first_unkept : (r : Replied) (later : List Replied) → history (r ∷ later) ≡ [] → is_kept r ≡ false
first_unkept r later none = elim (cases_Bool (is_kept r)) [ inl kept ↦ let bad = rw kept at none in absurd (cc) | inr unkept ↦ unkept ]

-- lines of which the history has none leave the rows
pub rows-stay : (engine : Engine) (calls : ℕ) (old new : State) (replied : List Replied) → Serves (step engine calls) old replied new
    → history replied ≡ [] → new.rows ≡ old.rows
rows-stay engine calls old new [] served none = ap (λ s. s.rows) served
rows-stay engine calls old new (r ∷ later) (mid, first, served) none =
    let unkept = first_unkept r later none in
    rows-stay engine calls mid new later served (rw unkept at none) ∙ reply-unkept engine calls old.rows.step_limit old mid r first unkept

-- a request for a page is no edit
pub page_unkept : (line path : List ℕ) (reply : ReplyData) → line_command line ≡ Some (asked.get path)
    → is_kept (record { line = line; reply = reply }) ≡ false
page_unkept line path reply gets = rw gets refl
