-- What a callback finds in its call.
use Rattle.std.specs.Prelude.{ℕ, true, false, List, [], ◌∷◌, ◌++◌, codes, flat_map}
use Rattle.std.specs.Fmt.{signed_decimal}
use Rattle.plain_data.specs.Texts.{Text}
use Rattle.hook_changes.specs.declared.reply.Answer.{Answer}
use Rattle.hook_changes.specs.declared.reply.Answer.TheVariants as answer

-- the first argument, or empty text
abbrev pub first_argument : List Text → Text
first_argument [] = []
first_argument (value ∷ more) = value

-- the second argument if there is one
abbrev pub second_argument : List Text → Text
second_argument [] = []
second_argument (value ∷ more) = first_argument more

-- the text of an answer that is one, or empty text
abbrev pub text_in : Answer → Text
text_in (answer.Text text) = text
text_in (answer.Number number) = []
text_in (answer.Flag flag) = []
text_in answer.Nothing = []

-- an answer as it is shown
abbrev pub text_of_answer : Answer → Text
text_of_answer (answer.Text text) = text
text_of_answer (answer.Number number) = signed_decimal number
text_of_answer (answer.Flag true) = codes "1"
text_of_answer (answer.Flag false) = codes "0"
text_of_answer answer.Nothing = codes "-"

-- answers as they are shown, with commas between them
abbrev pub text_of_answers : List Answer → Text
text_of_answers [] = []
text_of_answers (first ∷ more) = text_of_answer first ++ flat_map (λ next. codes "," ++ text_of_answer next) more
