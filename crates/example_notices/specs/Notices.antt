-- The plugin `notices`: its load list, and what its callbacks are stated to reply.
use Rattle.std.specs.Prelude.{ℕ, pos, ◌==◌, List, [], ◌∷◌, ◌++◌, codes, unwrap_or, if◌then◌else◌}
use Rattle.shortcode_atts.specs.Attributes.{Attributes, value_of}
use Rattle.hook_changes.specs.declared.reply.Call.{Call}
use Rattle.hook_changes.specs.declared.reply.Reply.{Reply}
use Rattle.hook_changes.specs.Replies.{answers_text, asks}
use Rattle.plain_data.specs.Texts.{Text}
use Rattle.hook_changes.specs.declared.reply.Answer.{Answer}
use Rattle.hook_changes.specs.declared.reply.Answer.TheVariants as answer
use Rattle.hook_changes.specs.declared.reply.Ask.TheVariants.{Shortcodes}
use Rattle.hook_changes.specs.declared.reply.Change.{Change}
use Rattle.hook_changes.specs.declared.reply.Change.TheVariants.{Add, AddTag}
use Rattle.callback_store.specs.Shape.{Shape}
use Rattle.page_escapes.specs.Escapes.{html_escaped}

-- the handler of [notice] is number 1001, the filter on titles number 1002, which wants the title and the post's ID
abbrev pub load : List Change
load = AddTag (codes "notice") 1001 ∷ Add (codes "the_title") (pos 10) 1002 2 ∷ []

abbrev pub notices : Shape
notices = record { name = codes "notices"; load = load; callbacks = 1001 ∷ 1002 ∷ [] }

-- the attributes of [notice], and what each is if it isn't given
abbrev pub defaults : List (Text × Text)
defaults = (codes "kind", codes "info") ∷ (codes "label", codes "Note") ∷ []

-- a box round a content; kind and label are escaped, since anybody who writes a post chooses them
abbrev pub boxed : Text → Text → Text → Text
boxed kind label content =
    codes "<div class=\"notice " ++ (html_escaped kind ++ (codes "\"><b>"
    ++ (html_escaped label ++ (codes "</b> " ++ (content ++ codes "</div>")))))

-- the box that the attributes ask for
abbrev pub notice_html : Attributes → Text → Text
notice_html atts content =
    boxed
    (unwrap_or (value_of atts (codes "kind")) (codes "info"))
    (unwrap_or (value_of atts (codes "label")) (codes "Note"))
    content

-- number 1001 asks for the shortcodes in its content, and draws the box round the answer
abbrev pub notice : Attributes → Text → List Answer → Reply
notice atts content [] = asks (Shortcodes content)
notice atts content (answer.Text replaced ∷ more) = answers_text (notice_html atts replaced)
notice atts content (other ∷ more) = answers_text []

-- number 1002 puts the ID before the title
abbrev pub numbered : List Text → Text
numbered [] = []
numbered (title ∷ []) = title
numbered (title ∷ id ∷ more) = id ++ (codes ". " ++ title)

-- what the callback with that number replies
unfoldable pub says : ℕ → Call → Reply
says number call =
    if number == 1001 then notice call.atts call.content call.answers
    else answers_text (numbered call.args)
