-- What the test callbacks numbered from 201 on are stated to reply.
use Rattle.std.specs.Prelude.{ℕ, true, false, ◌==◌, ◌&&◌, List, [], ◌∷◌, ◌++◌, length, codes, flat_map, nat_lt, Option, None, Some, if◌then◌else◌}
use Rattle.std.specs.Fmt.{signed_decimal}
use Rattle.hook_changes.specs.declared.reply.Call.{Call}
use Rattle.hook_changes.specs.declared.reply.Reply.{Reply}
use Rattle.hook_changes.specs.declared.reply.Answer.{Answer}
use Rattle.hook_changes.specs.declared.reply.Answer.TheVariants as answer
use Rattle.hook_changes.specs.declared.reply.Ask.{Ask}
use Rattle.hook_changes.specs.declared.reply.Ask.TheVariants.{Apply, Act, Did, Doing, Has}
use Rattle.hook_changes.specs.Replies.{answers_text, asks, prints_and_answers}
use Rattle.plain_data.specs.Texts.{Text}
use Rattle.hook_meaning.specs.Meaning.{first_or_empty}

abbrev pub second_or_empty : List Text → Text
second_or_empty [] = []
second_or_empty (x ∷ xs) = first_or_empty xs

abbrev pub after_one : List Text → List Text
after_one [] = []
after_one (x ∷ xs) = xs

-- an answer as it is shown: a flag as 1 or 0, and the answer to an action as -
abbrev pub text_of_answer : Answer → Text
text_of_answer (answer.Text text) = text
text_of_answer (answer.Number number) = signed_decimal number
text_of_answer (answer.Flag true) = codes "1"
text_of_answer (answer.Flag false) = codes "0"
text_of_answer answer.Nothing = codes "-"

-- the title's own hook while the value is shorter than 32 bytes, and then the hook that is named
abbrev pub deeper_hook : Text → Text → Text
deeper_hook value name = if nat_lt (length value) 32 then codes "the_title" else name

-- what is asked of a hook, with further arguments: 203 whether it has callbacks, 204 if it has callback 207, 205 whether
-- it runs, 206 how often it was fired, and else an action
abbrev pub plain_ask : ℕ → Text → List Text → Ask
plain_ask number hook args =
    if number == 203 then Has hook None else
    (if number == 204 then Has hook (Some 207) else
    (if number == 205 then Doing hook else
    (if number == 206 then Did hook else Act hook args)))

-- what is asked first, given the value, the name of a hook, and further arguments: 201 a filter of that name, and 209 one
-- of a longer value, one level deeper
abbrev pub first_ask : ℕ → List Text → Ask
first_ask number args =
    if number == 201 then Apply (second_or_empty args) (first_or_empty args ++ []) (after_one (after_one args)) else
    (if number == 209
    then Apply (deeper_hook (first_or_empty args) (second_or_empty args)) (first_or_empty args ++ codes "x") (after_one args)
    else plain_ask number (second_or_empty args) (after_one (after_one args)))

-- asks, 208 then also whether the hook still runs, and then answers what it was told last
abbrev pub asks_or_shows : ℕ → List Text → List Answer → Reply
asks_or_shows number args [] = asks (first_ask number args)
asks_or_shows number args (told ∷ []) = if number == 208 then asks (Doing (second_or_empty args)) else answers_text (text_of_answer told)
asks_or_shows number args (told ∷ again ∷ more) = answers_text (text_of_answer again)

-- the arguments, each with a semicolon after it
abbrev pub text_of_args : List Text → Text
text_of_args args = flat_map (λ arg. arg ++ codes ";") args

abbrev pub shows : List Text → Reply
shows args = prints_and_answers (text_of_args args) (text_of_args args)

-- 207 prints and answers its arguments
abbrev pub asking : ℕ → Call → Reply
asking number call = if number == 207 then shows call.args else asks_or_shows number call.args call.answers
