-- The plugin `gallery`: its load list, and what its callback is stated to reply.
use Rattle.std.specs.Prelude.{ℕ, pos, ◌==◌, ◌-◌, ◌/◌, ◌&&◌, List, [], ◌∷◌, ◌++◌, codes, nat_le, flat_map, unwrap_or, if◌then◌else◌}
use Rattle.std.specs.List.{slice_split}
use Rattle.std.specs.Fmt.{decimal}
use Rattle.shortcode_atts.specs.Attributes.{Attributes, value_of}
use Rattle.hook_changes.specs.declared.reply.Call.{Call}
use Rattle.hook_changes.specs.declared.reply.Reply.{Reply}
use Rattle.hook_changes.specs.Replies.{answers_text, asks, prints_and_answers}
use Rattle.plain_data.specs.Texts.{Text}
use Rattle.hook_changes.specs.declared.reply.Answer.{Answer}
use Rattle.hook_changes.specs.declared.reply.Answer.TheVariants as answer
use Rattle.hook_changes.specs.declared.reply.Ask.TheVariants.{GetOption}
use Rattle.hook_changes.specs.declared.reply.Change.{Change}
use Rattle.hook_changes.specs.declared.reply.Change.TheVariants.{Add, AddTag}
use Rattle.callback_store.specs.Shape.{Shape}
use Rattle.page_escapes.specs.Escapes.{html_escaped}

-- callback 1001 is the handler of [gallery], callback 1002 an action at the end of each page, without arguments
abbrev pub load : List Change
load = AddTag (codes "gallery") 1001 ∷ Add (codes "wp_footer") (pos 10) 1002 0 ∷ []

abbrev pub gallery : Shape
gallery = record { name = codes "gallery"; load = load; callbacks = 1001 ∷ 1002 ∷ [] }

-- the IDs in a text: what is between its commas
abbrev pub ids_in : Text → List Text
ids_in text = slice_split (λ b. b == 44) text

-- the number that one digit from 1 to 9 writes, and else 3
abbrev pub columns_in : Text → ℕ
columns_in [] = 3
columns_in (d ∷ []) = if nat_le 49 d && nat_le d 57 then d - 48 else 3
columns_in (d ∷ e ∷ rest) = 3

-- a picture, so wide in hundredths, and none of an empty ID; the ID is escaped, since anybody who writes a post
-- chooses it
unfoldable pub picture : ℕ → Text → Text
picture width [] = []
picture width (b ∷ rest) =
    codes "<img src=\"/media/" ++ (html_escaped (b ∷ rest)
    ++ (codes ".jpg\" style=\"width:" ++ (decimal width ++ codes "%\">")))

-- the pictures one after another
abbrev pub drawn : ℕ → List Text → Text
drawn width ids = codes "<div class=\"gallery\">" ++ (flat_map (picture width) ids ++ codes "</div>")

-- what the attributes ask for
abbrev pub gallery_html : Attributes → Text
gallery_html atts =
    drawn
    (100 / columns_in (unwrap_or (value_of atts (codes "columns")) (codes "3")))
    (ids_in (unwrap_or (value_of atts (codes "ids")) []))

-- number 1002 asks for the site's title, and prints it escaped; an action's answer is dropped
abbrev pub credit : List Answer → Reply
credit [] = asks (GetOption (codes "blogname"))
credit (answer.Text name ∷ more) = prints_and_answers (codes "<p>Pictures: " ++ (html_escaped name ++ codes "</p>")) []
credit (other ∷ more) = answers_text []

-- what the callback with that number replies
unfoldable pub says : ℕ → Call → Reply
says number call = if number == 1001 then answers_text (gallery_html call.atts) else credit call.answers
