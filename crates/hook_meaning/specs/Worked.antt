-- A small bundle of plugins for worked passes, and what those passes come to.
use Rattle.std.specs.Prelude.{ℕ, pos, negsuc, ◌==◌, List, [], ◌∷◌, ◌++◌, length, if◌then◌else◌, codes, decimal, bytes_eq, Result, Ok, Err}
use Rattle.std.specs.List.{list_all}
use Rattle.hook_changes.specs.declared.reply.Call.{Call}
use Rattle.hook_changes.specs.declared.reply.Reply.{Reply}
use Rattle.hook_changes.specs.declared.reply.Answer.{Answer}
use Rattle.hook_changes.specs.declared.reply.Answer.TheVariants as answer
use Rattle.hook_changes.specs.declared.reply.Ask.TheVariants.{Apply, Shortcodes, Did}
use Rattle.hook_changes.specs.declared.reply.Change.TheVariants.{Add, Remove, AddTag, RemoveTag}
use Rattle.hook_changes.specs.Replies.{answers_text, asks, changes_and_answers, changes_and_asks, prints_and_answers}
use Rattle.callback_store.specs.Shape.{Shape}
use Rattle.hook_meaning.specs.declared.fault.RunFault.{RunFault}
use Rattle.plain_data.specs.Texts.{Text}
use Rattle.hook_meaning.specs.World.{World, fresh, loaded}
use Rattle.hook_meaning.specs.Trace.{Trace, Done, Outcome, Ended, Fault, and_then, outcome_of}
use Rattle.hook_meaning.specs.Meaning.{Engine, first_or_empty, shortcode_filter, filtered, acted, replaced}

abbrev pub the_title : Text
the_title = codes "the_title"

abbrev pub wp_footer : Text
wp_footer = codes "wp_footer"

-- the first argument of a call, and the second one
abbrev pub value_of_call : Call → Text
value_of_call call = first_or_empty call.args

abbrev pub second : List Text → Text
second [] = []
second (x ∷ xs) = first_or_empty xs

-- a text that was answered, as it is, or a number in decimal
abbrev pub shown_answer : Answer → Text
shown_answer (answer.Text text) = text
shown_answer (answer.Number (pos n)) = decimal n
shown_answer (answer.Number (negsuc n)) = []
shown_answer (answer.Flag flag) = []
shown_answer answer.Nothing = []

-- number 7 takes itself out and asks for a pass of its own hook, and then puts itself back
abbrev pub asks_its_own_hook : Text → List Answer → Reply
asks_its_own_hook value [] = changes_and_asks (Remove the_title (pos 11) 7 ∷ []) (Apply the_title [] [])
asks_its_own_hook value (a ∷ more) =
    changes_and_answers (Add the_title (pos 11) 7 1 ∷ []) (value ++ codes "-" ++ shown_answer a ++ codes "-2")

-- number 26 puts parentheses round what its own hook makes of the value without its first `d`; on `spin` it asks for
-- ever
abbrev pub goes_deeper : Text → List Answer → Reply
goes_deeper [] answers = answers_text []
goes_deeper (d ∷ ds) [] =
    if bytes_eq (d ∷ ds) (codes "spin") then asks (Did (codes "init"))
    else (if list_all (λ b. b == 100) (d ∷ ds) then asks (Apply the_title ds []) else answers_text (d ∷ ds))
goes_deeper (d ∷ ds) (a ∷ more) =
    if bytes_eq (d ∷ ds) (codes "spin") then asks (Did (codes "init"))
    else (if list_all (λ b. b == 100) (d ∷ ds) then answers_text (codes "(" ++ shown_answer a ++ codes ")") else answers_text (d ∷ ds))

-- number 18 replaces the shortcodes of its own content
abbrev pub replaces_content : Text → List Answer → Reply
replaces_content content [] = asks (Shortcodes content)
replaces_content content (a ∷ more) = answers_text (codes "<i>" ++ shown_answer a ++ codes "</i>")

-- number 27 prints how often the action was fired
abbrev pub prints_count : List Answer → Reply
prints_count [] = asks (Did wp_footer)
prints_count (a ∷ more) = prints_and_answers (shown_answer a) []

-- the stated functions by their numbers
abbrev pub stated_functions : List (ℕ × (Call → Reply))
stated_functions =
    (1, λ call. answers_text (value_of_call call ++ codes "Y"))
    ∷ (2, λ call. answers_text (value_of_call call ++ codes "X" ++ second call.args))
    ∷ (3, λ call. answers_text (value_of_call call ++ codes "1"))
    ∷ (4, λ call. changes_and_answers (Remove the_title (pos 11) 4 ∷ Add the_title (pos 11) 4 1 ∷ []) (value_of_call call ++ codes "2"))
    ∷ (5, λ call. answers_text (value_of_call call ++ codes "4"))
    ∷ (6, λ call. answers_text (value_of_call call ++ codes "1"))
    ∷ (7, λ call. asks_its_own_hook (value_of_call call) call.answers)
    ∷ (8, λ call. answers_text (value_of_call call ++ codes "3"))
    ∷ (9, λ call. answers_text (value_of_call call ++ codes "4"))
    ∷ (
      10,
      λ call. changes_and_answers (Add the_title (pos 5) 11 1 ∷ Add the_title (pos 10) 12 1 ∷ Add the_title (pos 20) 13 1 ∷ [])
          (value_of_call call ++ codes "a"),
    )
    ∷ (11, λ call. answers_text (value_of_call call ++ codes "5"))
    ∷ (12, λ call. answers_text (value_of_call call ++ codes "9"))
    ∷ (13, λ call. answers_text (value_of_call call ++ codes "7"))
    ∷ (14, λ call. answers_text (codes "n" ++ decimal (length call.args)))
    ∷ (15, λ call. answers_text (value_of_call call ++ codes "(" ++ decimal (length call.args) ++ codes " " ++ second call.args ++ codes ")"))
    ∷ (16, λ call. prints_and_answers (codes "[" ++ decimal (length call.args) ++ codes ":" ++ value_of_call call ++ codes "]") [])
    ∷ (17, λ call. answers_text (codes "<b>" ++ call.content ++ codes "</b>"))
    ∷ (18, λ call. replaces_content call.content call.answers)
    ∷ (19, λ call. answers_text (codes "[b]y[/b]"))
    ∷ (20, λ call. changes_and_answers (RemoveTag (codes "b") ∷ []) [])
    ∷ (26, λ call. goes_deeper (value_of_call call) call.answers)
    ∷ (27, λ call. prints_count call.answers)
    ∷ (28, λ call. answers_text (value_of_call call ++ codes "b"))
    ∷ (29, λ call. answers_text (value_of_call call ++ codes "c"))
    ∷ (31, λ call. answers_text (value_of_call call ++ codes "{" ++ second call.args ++ codes "}"))
    ∷ []

-- the reply of the first function with the number
abbrev pub reply_in : List (ℕ × (Call → Reply)) → ℕ → Call → Reply
reply_in [] number call = answers_text []
reply_in (f ∷ fs) number call = if f.0 == number then f.1 call else reply_in fs number call

abbrev pub says : ℕ → Call → Reply
says number call = reply_in stated_functions number call

abbrev pub bundle : List Shape
bundle =
    record {
      name = codes "args";
      load = Add the_title (pos 10) 14 0 ∷ Add the_title (pos 20) 15 16 ∷ Add wp_footer (pos 10) 16 1 ∷ [];
      callbacks = 14 ∷ 15
          ∷ 16 ∷ [];
    }
    ∷ record {
      name = codes "bold";
      load = AddTag (codes "b") 17 ∷ AddTag (codes "i") 18 ∷ AddTag (codes "raw") 19 ∷ AddTag (codes "off") 20
          ∷ [];
      callbacks = 17 ∷ 18 ∷ 19 ∷ 20 ∷ [];
    }
    ∷ record { name = codes "count"; load = Add wp_footer (pos 10) 27 1 ∷ []; callbacks = 27 ∷ [] }
    ∷ record { name = codes "deep"; load = Add the_title (pos 10) 26 1 ∷ []; callbacks = 26 ∷ [] }
    ∷ record { name = codes "edges"; load = Add the_title (pos 2147483647) 28 1 ∷ Add the_title (negsuc 2147483647) 29 1 ∷ []; callbacks = 28 ∷ 29 ∷ [] }
    ∷ record { name = codes "grow"; load = Add the_title (pos 10) 10 1 ∷ []; callbacks = 10 ∷ 11 ∷ 12 ∷ 13 ∷ [] }
    ∷ record { name = codes "marks"; load = Add the_title (pos 10) 2 1 ∷ Add the_title (pos 10) 1 1 ∷ Add the_title (pos 10) 2 2 ∷ []; callbacks = 1 ∷ 2 ∷ [] }
    ∷ record {
      name = codes "nest";
      load = Add the_title (pos 10) 6 1 ∷ Add the_title (pos 11) 7 1 ∷ Add the_title (pos 11) 8 1 ∷ Add the_title (pos 12) 9 1
          ∷ [];
      callbacks = 6 ∷ 7 ∷ 8 ∷ 9 ∷ [];
    }
    ∷ record {
      name = codes "once";
      load = Add the_title (pos 10) 3 1 ∷ Add the_title (pos 11) 4 1 ∷ Add the_title (pos 12) 5 1 ∷ [];
      callbacks = 3 ∷ 4 ∷ 5
          ∷ [];
    }
    ∷ record { name = codes "tagmark"; load = Add shortcode_filter (pos 10) 31 2 ∷ []; callbacks = 31 ∷ [] }
    ∷ []

abbrev pub worked_engine : Engine
worked_engine = record { says = says; plugins = bundle }

-- a request with this plugin active, once it is loaded, with a number of calls
abbrev pub loaded_with : ℕ → Text → World
loaded_with calls plugin = loaded bundle (fresh calls [] (plugin ∷ []))

-- the result of some work, or its fault
abbrev pub result_of_outcome : {A : Type 0} → Outcome A → Result A RunFault
result_of_outcome (Ended world x) = Ok x
result_of_outcome (Fault fault) = Err fault

abbrev pub result_of : {A : Type 0} → Trace A → Result A RunFault
result_of trace = result_of_outcome (outcome_of trace)

-- what some work prints, or its fault
abbrev pub printed_at_end : {A : Type 0} → Outcome A → Result Text RunFault
printed_at_end (Ended world x) = Ok world.output
printed_at_end (Fault fault) = Err fault

abbrev pub title_pass : World → Text → Trace Text
title_pass world value = filtered worked_engine world the_title value (codes "1" ∷ [])

-- what `the_title` makes of a value, with one more argument `1`
abbrev pub title : ℕ → Text → Text → Result Text RunFault
title calls plugin value = result_of (title_pass (loaded_with calls plugin) value)

-- what it makes of an empty value, and what of a second one in the same request
abbrev pub two_titles : Text → Result (Text × Text) RunFault
two_titles plugin =
    result_of (and_then (title_pass (loaded_with 100 plugin) []) (λ w one. and_then (title_pass w []) (λ w' two. Done w' (one, two))))

-- what `wp_footer` prints
abbrev pub footer : Text → Result Text RunFault
footer plugin = printed_at_end (outcome_of (acted worked_engine (loaded_with 100 plugin) wp_footer []))

-- two plugins that are listed out of the order of their names, with a callback each at one priority
abbrev pub unordered_plugins : List Shape
unordered_plugins =
    record { name = codes "last"; load = Add the_title (pos 10) 1 1 ∷ []; callbacks = 1 ∷ [] }
    ∷ record { name = codes "first"; load = Add the_title (pos 10) 3 1 ∷ []; callbacks = 3 ∷ [] }
    ∷ []

-- what `the_title` makes of a value if both are active
abbrev pub unordered_title : Text → Result Text RunFault
unordered_title value =
    result_of (filtered (record { says = says; plugins = unordered_plugins }) (loaded unordered_plugins (fresh 20 [] (codes "last" ∷ codes "first" ∷ [])))
    the_title value [])

-- a text with its shortcodes replaced
abbrev pub replaced_text : Text → Result Text RunFault
replaced_text text = result_of (replaced worked_engine (loaded_with 100 (codes "bold")) text)

-- what `the_content` makes of a text
abbrev pub content : Text → Result Text RunFault
content text = result_of (filtered worked_engine (loaded_with 100 (codes "bold")) (codes "the_content") text [])

-- a request in which what replaces each shortcode is filtered, by a callback that puts the tag after it
abbrev pub marking : ℕ → World
marking calls = loaded bundle (fresh calls [] (codes "bold" ∷ codes "tagmark" ∷ []))

abbrev pub marked_pass : ℕ → Text → Trace Text
marked_pass calls text = replaced worked_engine (marking calls) text

-- a text with its shortcodes replaced there
abbrev pub text_with_marks : ℕ → Text → Result Text RunFault
text_with_marks calls text = result_of (marked_pass calls text)

-- what `the_content` makes of a text there
abbrev pub marked_content : Text → Trace Text
marked_content text = filtered worked_engine (marking 100) (codes "the_content") text []
