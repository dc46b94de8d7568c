-- The plugin `snippets`: its load list, and what its callbacks are stated to reply.
use Rattle.std.specs.Prelude.{ℕ, Bool, pos, ◌==◌, ◌&&◌, ◌||◌, ◌+◌, ◌-◌, ◌*◌, List, [], ◌∷◌, ◌++◌, codes, decimal, nat_le, flat_map, bytes_eq, if◌then◌else◌}
use Rattle.std.specs.Prelude.{Option, Some, None}
use Rattle.std.specs.List.{list_any, slice_split, before_first, after_first, range_with_len}
use Rattle.std.specs.Option.{option_map_or}
use Rattle.hook_changes.specs.declared.reply.Answer.{Answer}
use Rattle.hook_changes.specs.declared.reply.Answer.TheVariants as answer
use Rattle.hook_changes.specs.declared.reply.Ask.TheVariants.{Shortcodes, GetOption}
use Rattle.hook_changes.specs.declared.reply.Call.{Call}
use Rattle.hook_changes.specs.declared.reply.Change.{Change}
use Rattle.hook_changes.specs.declared.reply.Change.TheVariants.{Add, AddTag}
use Rattle.hook_changes.specs.declared.reply.Reply.{Reply}
use Rattle.hook_changes.specs.Replies.{answers_text, asks, changes_and_answers, prints_and_answers}
use Rattle.plain_data.specs.Texts.{Text}
use Rattle.callback_store.specs.Shape.{Shape}
use Rattle.snippets.specs.Templates.{Values, printed}

-- number 500 registers what the option `snippets` lists, 501 is the handler of each of its shortcodes, and 502 + p runs on
-- each of its hooks at priority p, from 0 to 99
abbrev pub load : List Change
load = Add (codes "init") (pos 10) 500 0 ∷ []

abbrev pub numbers : List ℕ
numbers = range_with_len 500 102

abbrev pub snippets : Shape
snippets = record { name = codes "snippets"; load = load; callbacks = numbers }

-- one or two digits, the first of two no zero
abbrev pub priority_in : Text → Option ℕ
priority_in [] = None
priority_in (d ∷ []) = if nat_le 48 d && nat_le d 57 then Some (d - 48) else None
priority_in (d ∷ e ∷ []) = if nat_le 49 d && nat_le d 57 && (nat_le 48 e && nat_le e 57) then Some (10 * (d - 48) + (e - 48)) else None
priority_in (d ∷ e ∷ f ∷ more) = None

-- `[tag]` registers a shortcode, `hook:priority` a callback on a hook; any other word nothing
abbrev pub registered : Text → List Change
registered [] = []
registered (b ∷ rest) =
    if b == 91 then AddTag (before_first (λ c. c == 93) rest) 501 ∷ []
    else option_map_or (λ p. Add (before_first (λ c. c == 58) (b ∷ rest)) (pos p) (502 + p) 2 ∷ [])
    (priority_in (after_first (λ c. c == 58) (b ∷ rest))) []

-- number 500 asks for the list, and registers its words, which are apart by blanks
abbrev pub registers : List Answer → Reply
registers [] = asks (GetOption (codes "snippets"))
registers (answer.Text list ∷ more) = changes_and_answers (flat_map registered (slice_split (λ c. c == 32) list)) []
registers (other ∷ more) = answers_text []

-- the option that has a shortcode's template
abbrev pub bracketed : Text → Text
bracketed tag = codes "[" ++ (tag ++ codes "]")

abbrev pub first_argument : List Text → Text
first_argument [] = []
first_argument (value ∷ more) = value

abbrev pub second_argument : List Text → Option Text
second_argument [] = None
second_argument (value ∷ []) = None
second_argument (value ∷ second ∷ more) = Some second

-- the values of a call: a shortcode's attributes, or under `2` a hook's second argument
abbrev pub values_of : Option Text → Values → Values
values_of None named = named
values_of (Some second) named = (codes "2", second) ∷ named

abbrev pub values_in : Call → Values
values_in call = values_of (second_argument call.args) call.atts.named

-- number 501 asks for the template and, if the content has a `[`, for its shortcodes, and answers what the template prints;
-- a shortcode without a template is seen on the page
abbrev pub draws : Call → List Answer → Reply
draws call [] = asks (GetOption (bracketed call.tag))
draws call (answer.Text template ∷ []) =
    if list_any (λ c. c == 91) call.content then asks (Shortcodes call.content) else answers_text (printed template (values_in call) call.content)
draws call (answer.Text template ∷ answer.Text content ∷ more) = answers_text (printed template (values_in call) content)
draws call (other ∷ more) = answers_text (bracketed call.tag)

-- the hooks whose callbacks answer a value; those of every other hook print
abbrev pub is_filter : Text → Bool
is_filter hook = bytes_eq hook (codes "the_title") || bytes_eq hook (codes "the_content") || bytes_eq hook (codes "do_shortcode_tag")

abbrev pub gives : Text → Text → Reply
gives hook text = if is_filter hook then answers_text text else prints_and_answers text []

-- number 502 + p asks for the template of its hook and priority, whose content is the hook's first argument; without a
-- template a filter leaves its value, and an action prints nothing
abbrev pub runs : ℕ → Call → List Answer → Reply
runs priority call [] = asks (GetOption (call.hook ++ (codes ":" ++ decimal priority)))
runs priority call (answer.Text template ∷ more) = gives call.hook (printed template (values_in call) (first_argument call.args))
runs priority call (other ∷ more) = answers_text (first_argument call.args)

-- what the callback with that number replies
unfoldable pub says : ℕ → Call → Reply
says number call =
    if number == 500 then registers call.answers
    else (if number == 501 then draws call call.answers
    else runs (number - 502) call call.answers)
