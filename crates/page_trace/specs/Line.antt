-- The lines of the log, as JSON: of an invocation, and of a page's end. Changes and asks have the names of WordPress's functions.
use Rattle.std.specs.Prelude.{ℕ, ℤ, ◌==◌, List, [], ◌∷◌, ◌++◌, flat_map, length, take, nat_le, codes, decimal, if◌then◌else◌, option_map, Option, None, Some}
use Rattle.std.specs.Fmt.{signed_decimal}
use Rattle.std.specs.Fmt.Cut.{floor_char_boundary}
use Rattle.std.specs.Borrow.{Bor}
use Rattle.json.specs.Token.{Token, begin_object, end_object, begin_array, end_array, key, string, number, boolean, null}
use Rattle.json.specs.Print.{print}
use Rattle.shortcode_atts.specs.Attributes.{Attributes}
use Rattle.hook_changes.specs.declared.reply.Call.{Call}
use Rattle.hook_changes.specs.declared.reply.Reply.{Reply}
use Rattle.hook_changes.specs.declared.reply.Change.{Change}
use Rattle.hook_changes.specs.declared.reply.Change.TheVariants.{Add, Remove, RemoveAll, AddTag, RemoveTag, RemoveAllTags}
use Rattle.hook_changes.specs.declared.reply.Ask.{Ask}
use Rattle.hook_changes.specs.declared.reply.Ask.TheVariants.{Apply, Act, Shortcodes, Did, Current, Doing, Has, TagExists, GetOption}
use Rattle.hook_changes.specs.declared.reply.Answer.{Answer}
use Rattle.hook_changes.specs.declared.reply.Answer.TheVariants as answer
use Rattle.hook_changes.specs.declared.reply.Then.{Then}
use Rattle.hook_changes.specs.declared.reply.Then.TheVariants as next
use Rattle.page_trace.specs.declared.told.Told.{Told}
use Rattle.page_trace.specs.declared.told.PageEnd.{PageEnd}
use Rattle.page_trace.specs.declared.told.PageEnd.TheVariants.{Printed, Refused}

abbrev pub Text : Type 0
Text = List ℕ

-- ---- texts and numbers

-- the first bytes of a text, at most 200, cut between two characters
unfoldable pub front : Text → Text
front text = take (floor_char_boundary text 200) text

-- a text; if it is long, its first bytes, and how many it has
unfoldable pub text_tokens : Text → List Token
text_tokens text =
    if nat_le (length text) 200 then string text ∷ []
    else begin_object ∷ key (codes "cut") ∷ string (front text) ∷ key (codes "bytes") ∷ number (decimal (length text)) ∷ end_object ∷ []

-- members of an object: a name, and a text, a number, or a list
abbrev pub with_text : Text → Text → List Token
with_text name text = key name ∷ text_tokens text

abbrev pub with_number : Text → ℕ → List Token
with_number name n = key name ∷ number (decimal n) ∷ []

abbrev pub with_priority : ℤ → List Token
with_priority priority = key (codes "priority") ∷ number (signed_decimal priority) ∷ []

abbrev pub with_list : {X : Type 0} → Text → (X → List Token) → List X → List Token
with_list name tokens items = key name ∷ begin_array ∷ flat_map tokens items ++ end_array ∷ []

-- a member that is left out if there is none of it
abbrev pub if_any : {X : Type 0} → (X → List Token) → Option X → List Token
if_any tokens None = []
if_any tokens (Some x) = tokens x

abbrev pub unless_empty : {X : Type 0} → (List X → List Token) → List X → List Token
unless_empty tokens items = if length items == 0 then [] else tokens items

-- ---- what a callback receives and replies

abbrev pub pair_tokens : Text × Text → List Token
pair_tokens pair = begin_array ∷ text_tokens pair.0 ++ text_tokens pair.1 ++ end_array ∷ []

unfoldable pub atts_tokens : Attributes → List Token
atts_tokens atts =
    key (codes "atts") ∷ begin_object ∷ with_list (codes "named") pair_tokens atts.named
    ++ with_list (codes "positional") text_tokens atts.positional ++ end_object ∷ []

unfoldable pub answer_tokens : Answer → List Token
answer_tokens (answer.Text text) = text_tokens text
answer_tokens (answer.Number n) = number (signed_decimal n) ∷ []
answer_tokens (answer.Flag flag) = boolean flag ∷ []
answer_tokens answer.Nothing = null ∷ []

-- a call of a function of WordPress's: its name, and its arguments by their names
abbrev pub function_call : Text → List Token → List Token
function_call name given = begin_object ∷ key name ∷ begin_object ∷ given ++ end_object ∷ end_object ∷ []

unfoldable pub change_name : Change → Text
change_name (Add hook priority callback accepted) = codes "add_filter"
change_name (Remove hook priority callback) = codes "remove_filter"
change_name (RemoveAll hook priority) = codes "remove_all_filters"
change_name (AddTag tag callback) = codes "add_shortcode"
change_name (RemoveTag tag) = codes "remove_shortcode"
change_name RemoveAllTags = codes "remove_all_shortcodes"

unfoldable pub change_arguments : Change → List Token
change_arguments (Add hook priority callback accepted) =
    with_text (codes "hook") hook ++ with_priority priority ++ with_number (codes "callback") callback ++ with_number (codes "accepted") accepted
change_arguments (Remove hook priority callback) = with_text (codes "hook") hook ++ with_priority priority ++ with_number (codes "callback") callback
change_arguments (RemoveAll hook priority) = with_text (codes "hook") hook ++ if_any with_priority priority
change_arguments (AddTag tag callback) = with_text (codes "tag") tag ++ with_number (codes "callback") callback
change_arguments (RemoveTag tag) = with_text (codes "tag") tag
change_arguments RemoveAllTags = []

unfoldable pub change_tokens : Change → List Token
change_tokens change = function_call (change_name change) (change_arguments change)

unfoldable pub ask_name : Ask → Text
ask_name (Apply hook value args) = codes "apply_filters"
ask_name (Act hook args) = codes "do_action"
ask_name (Shortcodes text) = codes "do_shortcode"
ask_name (Did hook) = codes "did_action"
ask_name Current = codes "current_filter"
ask_name (Doing hook) = codes "doing_filter"
ask_name (Has hook callback) = codes "has_filter"
ask_name (TagExists tag) = codes "shortcode_exists"
ask_name (GetOption name) = codes "get_option"

unfoldable pub ask_arguments : Ask → List Token
ask_arguments (Apply hook value args) = with_text (codes "hook") hook ++ with_text (codes "value") value ++ with_list (codes "args") text_tokens args
ask_arguments (Act hook args) = with_text (codes "hook") hook ++ with_list (codes "args") text_tokens args
ask_arguments (Shortcodes text) = with_text (codes "text") text
ask_arguments (Did hook) = with_text (codes "hook") hook
ask_arguments Current = []
ask_arguments (Doing hook) = with_text (codes "hook") hook
ask_arguments (Has hook callback) = with_text (codes "hook") hook ++ if_any (with_number (codes "callback")) callback
ask_arguments (TagExists tag) = with_text (codes "tag") tag
ask_arguments (GetOption name) = with_text (codes "name") name

-- how a callback goes on
unfoldable pub next_tokens : Then → List Token
next_tokens (next.Answer text) = with_text (codes "answer") text
next_tokens (next.Ask ask) = key (codes "ask") ∷ function_call (ask_name ask) (ask_arguments ask)

unfoldable pub reply_tokens : Reply → List Token
reply_tokens reply =
    unless_empty (with_text (codes "echo")) reply.echo ++ unless_empty (with_list (codes "changes") change_tokens) reply.changes ++ next_tokens reply.next

-- ---- an invocation

-- which page it is: its path, if that is known, and the number of an open page
unfoldable pub page_tokens : Option Text → Option ℕ → List Token
page_tokens path page = if_any (with_text (codes "page")) path ++ if_any (with_number (codes "open")) page

-- where in the page it was made
unfoldable pub place_tokens : Told → List Token
place_tokens told =
    with_number (codes "count") told.count ++ if_any (with_number (codes "item")) told.item ++ if_any (with_number (codes "post")) told.post
    ++ with_number (codes "depth") told.depth

-- the hook and where it is in its pass, or the tag of a shortcode
unfoldable pub hook_tokens : Call → Option ℤ → List Token
hook_tokens call (Some priority) = with_text (codes "hook") call.hook ++ with_priority priority
hook_tokens call None = with_text (codes "tag") call.tag

-- the plugin that has the callback, or core
abbrev pub plugin_name : Option (Bor Text) → Text
plugin_name (Some name) = name.now
plugin_name None = codes "core"

unfoldable pub callback_tokens : Told → List Token
callback_tokens told = with_text (codes "plugin") (plugin_name told.plugin) ++ with_number (codes "callback") told.callback

-- the arguments, or the attributes and the content of a shortcode
unfoldable pub arguments_tokens : Call → Option ℤ → List Token
arguments_tokens call (Some priority) = with_list (codes "args") text_tokens call.args
arguments_tokens call None = atts_tokens call.atts ++ with_text (codes "content") call.content

-- what the callback received, with what the engine has answered so far
unfoldable pub received_tokens : Call → Option ℤ → List Token
received_tokens call priority = arguments_tokens call priority ++ unless_empty (with_list (codes "answers") answer_tokens) call.answers

-- which callback was invoked, and where
unfoldable pub invoked_tokens : Option Text → Option ℕ → Told → List Token
invoked_tokens path page told = page_tokens path page ++ place_tokens told ++ hook_tokens told.call.now told.priority ++ callback_tokens told

unfoldable pub invocation_tokens : Option Text → Option ℕ → Told → List Token
invocation_tokens path page told =
    begin_object ∷ invoked_tokens path page told ++ received_tokens told.call.now told.priority
    ++ if_any reply_tokens (option_map (λ reply. reply.now) told.reply) ++ end_object ∷ []

-- ---- the end of a page

unfoldable pub outcome_tokens : PageEnd → List Token
outcome_tokens (Printed status bytes) = with_number (codes "status") status ++ with_number (codes "bytes") bytes
outcome_tokens (Refused refusal name) = with_number (codes "refused") refusal ++ with_text (codes "name") name.now

unfoldable pub end_tokens : Option Text → Option ℕ → PageEnd → ℕ → List Token
end_tokens path page end invocations =
    begin_object ∷ page_tokens path page ++ outcome_tokens end ++ with_number (codes "invocations") invocations ++ end_object ∷ []

-- ---- lines

abbrev pub line_of : List Token → Text
line_of tokens = print tokens ++ 10 ∷ []

abbrev pub invocation_line : Option Text → Option ℕ → Told → Text
invocation_line path page told = line_of (invocation_tokens path page told)

abbrev pub end_line : Option Text → Option ℕ → PageEnd → ℕ → Text
end_line path page end invocations = line_of (end_tokens path page end invocations)
