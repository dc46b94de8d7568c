-- What the bundled callbacks are stated to reply, by their numbers.
use Rattle.std.specs.Prelude.{ℕ, Bool, pos, ◌==◌, ◌&&◌, not, List, [], ◌∷◌, ◌++◌, length, take, drop, codes, decimal, flat_map, bytes_eq, unwrap_or}
use Rattle.std.specs.Prelude.{slice_get, Option, None, Some, if◌then◌else◌}
use Rattle.std.specs.List.{list_all}
use Rattle.shortcode_atts.specs.Attributes.{Attributes, value_of}
use Rattle.hook_changes.specs.declared.reply.Call.{Call}
use Rattle.hook_changes.specs.declared.reply.Reply.{Reply}
use Rattle.hook_changes.specs.declared.reply.Answer.{Answer}
use Rattle.hook_changes.specs.declared.reply.Ask.{Ask}
use Rattle.hook_changes.specs.declared.reply.Ask.TheVariants.{Apply, Act, Shortcodes, Did, Current, Doing, Has, TagExists, GetOption}
use Rattle.hook_changes.specs.declared.reply.Change.TheVariants.{Add, Remove, RemoveAll, RemoveTag, RemoveAllTags}
use Rattle.hook_changes.specs.Replies.{answers_text, changes_and_answers, prints_and_answers, changes_and_asks, asks}
use Rattle.plain_data.specs.Texts.{Text}
use Rattle.bundled_plugins.specs.Calls.{first_argument, second_argument, text_in, text_of_answer, text_of_answers}

abbrev pub the_title : Text
the_title = codes "the_title"

abbrev pub wp_footer : Text
wp_footer = codes "wp_footer"

-- number 7 of `nest`: takes itself out and asks for a pass of its own hook, and then puts itself back after the others
abbrev pub asks_its_own_hook : Text → List Answer → Reply
asks_its_own_hook value [] = changes_and_asks (Remove the_title (pos 11) 7 ∷ []) (Apply the_title [] [])
asks_its_own_hook value (first ∷ more) =
    changes_and_answers (Add the_title (pos 11) 7 1 ∷ []) (value ++ codes "-" ++ text_in first ++ codes "-2")

-- number 18 of `bold`: the content in italics, its shortcodes replaced
abbrev pub replaces_content : Text → List Answer → Reply
replaces_content content [] = asks (Shortcodes content)
replaces_content content (first ∷ more) = answers_text (codes "<i>" ++ text_in first ++ codes "</i>")

-- number 23 of `atts`: the attributes, those with a name before those without one
abbrev pub named_listed : List (Text × Text) → Text
named_listed named = flat_map (λ pair. pair.0 ++ codes "=" ++ pair.1 ++ codes ";") named

abbrev pub positional_listed : List Text → Text
positional_listed values = flat_map (λ value. codes "#" ++ value ++ codes ";") values

abbrev pub attributes_listed : Attributes → Text
attributes_listed a = named_listed a.named ++ positional_listed a.positional

-- number 24 of `atts`: a link, whose address and label have defaults
abbrev pub link : Attributes → Text
link a =
    codes "<a href=\"" ++ unwrap_or (value_of a (codes "href")) (codes "#") ++ codes "\">"
    ++ unwrap_or (value_of a (codes "label")) (codes "link") ++ codes "</a>"

-- number 25 of `atts`: what it asks in turn
abbrev pub questions : List Ask
questions =
    Current
    ∷ Doing (codes "the_content")
    ∷ Did (codes "init")
    ∷ Has (codes "the_content") (Some 0)
    ∷ TagExists (codes "b")
    ∷ GetOption (codes "blogname")
    ∷ []

-- the next question if there is one, and then the answers
abbrev pub asks_or_lists : Option Ask → List Answer → Reply
asks_or_lists (Some ask) answers = asks ask
asks_or_lists None answers = answers_text (text_of_answers (take 6 answers))

abbrev pub asks_in_turn : List Answer → Reply
asks_in_turn answers = asks_or_lists (slice_get questions (length answers)) answers

-- number 26 of `deep`: of `spin` it asks without end; of a run of `d` it asks what its own hook makes of one `d` fewer, and
-- puts that in parentheses
abbrev pub in_parentheses : Text → List Answer → Reply
in_parentheses shorter [] = asks (Apply the_title shorter [])
in_parentheses shorter (first ∷ more) = answers_text (codes "(" ++ text_in first ++ codes ")")

abbrev pub is_run_of_d : Text → Bool
is_run_of_d text = not (length text == 0) && list_all (λ byte. byte == 100) text

abbrev pub goes_deeper : Text → List Answer → Reply
goes_deeper value answers =
    if bytes_eq value (codes "spin") then asks (Did (codes "init"))
    else (if is_run_of_d value then in_parentheses (drop 1 value) answers
    else answers_text value)

-- number 29 of `note`: fires the action `ping`, and then says how often it was fired
abbrev pub counts_pings : List Answer → Reply
counts_pings [] = asks (Act (codes "ping") [])
counts_pings (first ∷ []) = asks (Did (codes "ping"))
counts_pings (first ∷ second ∷ more) = answers_text (text_of_answer second)

-- the stated functions
abbrev pub stated_functions : List (ℕ × (Call → Reply))
stated_functions =
    -- marks
    (1, λ call. answers_text (first_argument call.args ++ codes "Y"))
    ∷ (2, λ call. answers_text (first_argument call.args ++ codes "X" ++ second_argument call.args))
    -- once
    ∷ (3, λ call. answers_text (first_argument call.args ++ codes "1"))
    ∷ (4, λ call. changes_and_answers (Remove the_title (pos 11) 4 ∷ Add the_title (pos 11) 4 1 ∷ []) (first_argument call.args ++ codes "2"))
    ∷ (5, λ call. answers_text (first_argument call.args ++ codes "4"))
    -- nest
    ∷ (6, λ call. answers_text (first_argument call.args ++ codes "1"))
    ∷ (7, λ call. asks_its_own_hook (first_argument call.args) call.answers)
    ∷ (8, λ call. answers_text (first_argument call.args ++ codes "3"))
    ∷ (9, λ call. answers_text (first_argument call.args ++ codes "4"))
    -- grow
    ∷ (
      10,
      λ call. changes_and_answers (Add the_title (pos 5) 11 1 ∷ Add the_title (pos 10) 12 1 ∷ Add the_title (pos 20) 13 1 ∷ [])
          (first_argument call.args ++ codes "a"),
    )
    ∷ (11, λ call. answers_text (first_argument call.args ++ codes "5"))
    ∷ (12, λ call. answers_text (first_argument call.args ++ codes "9"))
    ∷ (13, λ call. answers_text (first_argument call.args ++ codes "7"))
    -- args
    ∷ (14, λ call. answers_text (codes "n" ++ decimal (length call.args)))
    ∷ (15, λ call. answers_text (first_argument call.args ++ codes "(" ++ decimal (length call.args) ++ codes " " ++ second_argument call.args ++ codes ")"))
    ∷ (16, λ call. prints_and_answers (codes "[" ++ decimal (length call.args) ++ codes ":" ++ first_argument call.args ++ codes "]") [])
    -- bold
    ∷ (17, λ call. answers_text (codes "<b>" ++ call.content ++ codes "</b>"))
    ∷ (18, λ call. replaces_content call.content call.answers)
    ∷ (19, λ call. answers_text (codes "[b]y[/b]"))
    ∷ (20, λ call. changes_and_answers (RemoveTag (codes "b") ∷ []) [])
    ∷ (21, λ call. changes_and_answers (RemoveAllTags ∷ []) [])
    ∷ (22, λ call. changes_and_answers (RemoveAll the_title (Some (pos 10)) ∷ []) [])
    -- atts
    ∷ (23, λ call. answers_text (attributes_listed call.atts))
    ∷ (24, λ call. answers_text (link call.atts))
    ∷ (25, λ call. asks_in_turn call.answers)
    -- deep
    ∷ (26, λ call. goes_deeper (first_argument call.args) call.answers)
    -- note
    ∷ (27, λ call. changes_and_answers (Add wp_footer (pos 10) 28 1 ∷ []) (codes "<sup>*</sup>"))
    ∷ (28, λ call. prints_and_answers (codes "<p>note</p>") [])
    ∷ (29, λ call. counts_pings call.answers)
    ∷ (30, λ call. prints_and_answers (codes "E") (codes "A"))
    -- tagmark
    ∷ (31, λ call. answers_text (first_argument call.args ++ codes "{" ++ second_argument call.args ++ codes "}"))
    ∷ []

-- the reply of the first function with the number; another number answers empty text
abbrev pub reply_in : List (ℕ × (Call → Reply)) → ℕ → Call → Reply
reply_in [] number call = answers_text []
reply_in (f ∷ fs) number call = if f.0 == number then f.1 call else reply_in fs number call

-- what the callback with that number replies
unfoldable pub says : ℕ → Call → Reply
says number call = reply_in stated_functions number call
