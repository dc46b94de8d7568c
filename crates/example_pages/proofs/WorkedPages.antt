-- Worked pages, computed.
use Rattle.std.proofs.Common.{◌≡◌, ◌∙◌, ℕ, [], ◌∷◌, Some, codes, refl, ap}
use Rattle.std.specs.Prelude.{is_none, position}
use Rattle.std.specs.Fmt.{digits}
use Rattle.std.specs.Str.{is_utf8, chars}
use Rattle.hook_meaning.specs.World.{loaded}
use Rattle.hook_meaning.specs.Meaning.{deeper, group_pass, priorities_pass, pass, filter_pass, action_pass, handled, piece_pass, pieces_pass}
use Rattle.hook_meaning.specs.Meaning.{shortcodes_pass, answered, follow, invoked, invoked_with, invoke_within, invoke, filtered, acted}
use Rattle.post_tables.specs.Rows.{Rows}
use Rattle.site_replies.specs.declared.reply.Refusal.TheVariants.{TooManyCalls}
use Rattle.shortcode_scan.specs.Places.{first_place}
use Rattle.shortcode_scan.specs.Matches.{match_at, name_start, name_at, core_of, with_extras}
use Rattle.shortcode_scan.specs.Pieces.{match_from, pieces_within}
use Rattle.shortcode_scan.specs.Live.{has_opening}
use Rattle.bundled_plugins.specs.Replies.{says}
use Rattle.template_parts.specs.Pages as template
use Rattle.template_parts.specs.Pages.{each, shown_pass, post_tag_pass, tag_pass, item_pass}
use Rattle.site_store.specs.Stored.{found_by}
use Rattle.site_program.specs.Requests.{Opened, page_pass, page_of, request, requested}
use Rattle.form_urlencoded.proofs.OnLiterals.{form_urlencoded_on_literals}
use Rattle.site_records.specs.declared.found.FoundKind.TheVariants.{Front}
use Rattle.permalink_query.specs.Found.{showing, nothing}
use Rattle.serde_json.proofs.OnLiterals.{serde_json_on_literals}
use Rattle.site_commands.specs.Tree.{tree_of}
use Rattle.site_commands.specs.Asked.{command_of, get_of, begin_of}
use Rattle.site_program.specs.State.{State, Places, no_pages, with_page}
use Rattle.site_program.specs.Step.{step, got, begun, opened_in}
use Rattle.site_replies.specs.Reply.{ReplyData, refused, done_id, page, bytes_of}
use Rattle.example_pages.specs.Worked.{bundled_engine, IsMarked, one_post, marked_turns}

-- what computes in the pages below
computes : ℕ
unfolding loaded deeper group_pass priorities_pass pass filter_pass action_pass handled piece_pass pieces_pass shortcodes_pass answered follow invoked
    invoked_with invoke_within invoke filtered acted has_opening first_place match_at name_start name_at core_of with_extras match_from pieces_within each
    shown_pass says template.action_pass post_tag_pass tag_pass item_pass template.page_pass page_pass bytes_of digits
computes = 0

-- the posts that the front of the worked site shows, and the page with them
abbrev front : ℕ → Opened
front calls = page_of bundled_engine calls (showing Front one_post) [] [] (codes "marks" ∷ [])

front_found : (rows : Rows) → IsMarked rows → found_by rows (codes "/") ≡ showing Front one_post
unfolding form_urlencoded_on_literals
front_found rows marked = rw (marked.posts, marked.options) refl

front_is : (calls : ℕ) (rows : Rows) → IsMarked rows → requested bundled_engine calls rows (codes "/") ≡ front calls
unfolding requested
front_is calls rows marked = rw (front_found rows marked, marked.options, marked.templates, marked.active) refl

marked_page : front 10000 ≡ marked_turns 4
unfolding computes
marked_page = refl

pub first_page : (rows : Rows) → IsMarked rows → request bundled_engine 10000 rows (codes "/") ≡ page 200 (codes "<h2>TX1Y</h2>")
first_page rows marked = ap (λ (opened : Opened). opened.answer) (front_is 10000 rows marked ∙ marked_page)

page_bytes : bytes_of (page 200 (codes "<h2>TX1Y</h2>")) ≡ codes "page 200 13\n<h2>TX1Y</h2>\n"
unfolding computes
page_bytes = refl

pub first_page_bytes : (rows : Rows) → IsMarked rows → bytes_of (request bundled_engine 10000 rows (codes "/")) ≡ codes "page 200 13\n<h2>TX1Y</h2>\n"
first_page_bytes rows marked = ap bytes_of (first_page rows marked) ∙ page_bytes

abbrev nothing_found : ReplyData
nothing_found = (page_of bundled_engine 10000 nothing [] [] (codes "marks" ∷ [])).answer

nothing_is : (rows : Rows) → IsMarked rows → request bundled_engine 10000 rows (codes "/x") ≡ nothing_found
unfolding requested
nothing_is rows marked = rw (marked.options, marked.templates, marked.active) refl

nothing_page : nothing_found ≡ page 404 (codes "<p>Nothing found.</p>")
unfolding computes
nothing_page = refl

pub missing_page : (rows : Rows) → IsMarked rows → request bundled_engine 10000 rows (codes "/x") ≡ page 404 (codes "<p>Nothing found.</p>")
missing_page rows marked = nothing_is rows marked ∙ nothing_page

page_of_three : (front 3).answer ≡ page 200 (codes "<h2>TX1Y</h2>")
unfolding computes
page_of_three = refl

pub three_calls : (rows : Rows) → IsMarked rows → request bundled_engine 3 rows (codes "/") ≡ page 200 (codes "<h2>TX1Y</h2>")
three_calls rows marked = ap (λ (opened : Opened). opened.answer) (front_is 3 rows marked) ∙ page_of_three

page_of_two : (front 2).answer ≡ refused TooManyCalls
unfolding computes
page_of_two = refl

pub two_calls : (rows : Rows) → IsMarked rows → request bundled_engine 2 rows (codes "/") ≡ refused TooManyCalls
two_calls rows marked = ap (λ (opened : Opened). opened.answer) (front_is 2 rows marked) ∙ page_of_two

-- from a line of JSON
line_is : (site : State) → step bundled_engine 10000 site (codes "{\"cmd\":\"get\",\"path\":\"/\"}")
    ≡ (site, request bundled_engine 10000 site.rows (codes "/"))
unfolding computes step tree_of command_of get_of got serde_json_on_literals is_utf8 chars
line_is site = refl

pub first_line : (site : State) → IsMarked site.rows
    → step bundled_engine 10000 site (codes "{\"cmd\":\"get\",\"path\":\"/\"}") ≡ (site, page 200 (codes "<h2>TX1Y</h2>"))
first_line site marked = line_is site ∙ ap (λ (reply : ReplyData). (site, reply)) (first_page site.rows marked)

begin_is : (site : State) → step bundled_engine 10000 site (codes "{\"cmd\":\"begin\",\"path\":\"/\"}")
    ≡ opened_in (position is_none site.pages) (requested bundled_engine 10000 site.rows (codes "/")) site
unfolding computes step tree_of command_of begin_of begun serde_json_on_literals is_utf8 chars
begin_is site = refl

pub first_opened : (site : State) → IsMarked site.rows → site.pages ≡ no_pages
    → step bundled_engine 10000 site (codes "{\"cmd\":\"begin\",\"path\":\"/\"}") ≡ (with_page site 0 (Some (marked_turns 4)), done_id 1)
first_opened site marked free =
    let first = front_is 10000 site.rows marked ∙ marked_page in
    begin_is site ∙ ap (λ (opened : Opened). opened_in (position is_none site.pages) opened site) first
    ∙ ap (λ (pages : Places). opened_in (position is_none pages) (marked_turns 4) site) free
