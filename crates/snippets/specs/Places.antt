-- Where in a page's markup a text ends, as a browser reads it (HTML Standard, Tokenization). Of markup that isn't well
-- formed what a browser forgives isn't followed everywhere: a comment, say, ends at `-->` and not at `--!>`. SVG and
-- MathML are read like HTML, so `<![CDATA[` begins a bogus comment in them too.
use Rattle.std.specs.Prelude.{ℕ, Bool, true, false, ◌==◌, ◌||◌, ◌&&◌, if◌then◌else◌, [], ◌∷◌, length, codes, unwrap_or, Option, Some, None, option_map}
use Rattle.std.specs.Char.{to_ascii_lowercase, is_ascii_alphabetic}
use Rattle.plain_data.specs.Steps.{only_if}
use Rattle.plain_data.specs.Texts.{Text}
use Rattle.snippets.specs.declared.places.Element.{Element}
use Rattle.snippets.specs.declared.places.Element.TheVariants.{Script, Style, Other}
use Rattle.snippets.specs.declared.places.Place as code
use Rattle.snippets.specs.declared.places.Place.TheVariants as variant

pub data Place : Type 0 where
  -- between tags
  Between : Place
  -- after a `<`
  Opened : Place
  -- after a `</`
  EndOpened : Place
  -- after a `<!`, with none or one `-` after it
  Declared : ℕ → Place
  -- in a doctype or a bogus comment, which end at the first `>`
  Ending : Place
  -- in a comment, with the number of `-` just before, 2 at most
  Comment : ℕ → Place
  -- in the name of a tag, with what is left of `script` and of `style` if it has been of these so far
  Name : Option Text → Option Text → Place
  -- in a tag of the element: before an attribute's name, in it or after it, after its `=`, in a value without quotes, and
  -- in one within two of the quote
  Inside : Element → Place
  Attribute : Element → Place
  Equals : Element → Place
  Bare : Element → Place
  Quoted : ℕ → Element → Place
  -- in the text of a script or a style, with what is left of `</script` or `</style`, and of `<!--`
  Raw : Element → Text → Text → Place
  -- in the text of a script after a `<!--`, where `<script` may begin another one: its end isn't looked for
  Nowhere : Place

-- white space (HTML Standard, ASCII whitespace), and what else ends a name: `/` is 47, `>` 62, `<` 60, `=` 61, `-` 45,
-- `!` 33, `?` 63
abbrev pub is_blank : ℕ → Bool
is_blank b = b == 32 || b == 9 || b == 10 || b == 12 || b == 13

abbrev pub is_gap : ℕ → Bool
is_gap b = is_blank b || b == 47

-- `"` and `'`
abbrev pub is_quote : ℕ → Bool
is_quote b = b == 34 || b == 39

-- what is left of a word after a byte, if that is its next one, in either case
abbrev pub word_after : Text → ℕ → Option Text
word_after [] b = None
word_after (c ∷ rest) b = only_if (to_ascii_lowercase b == c) rest

abbrev pub name_after : Option Text → ℕ → Option Text
name_after None b = None
name_after (Some word) b = word_after word b

-- whether a word has been read whole
abbrev pub is_whole : Option Text → Bool
is_whole None = false
is_whole (Some left) = length left == 0

-- the element of a tag's name
abbrev pub element_of : Option Text → Option Text → Element
element_of script style = if is_whole script then Script else (if is_whole style then Style else Other)

-- what ends the text of an element that is no markup
abbrev pub end_of : Element → Text
end_of Script = codes "</script"
end_of Style = codes "</style"
end_of Other = []

-- what makes the end of a script's text unsure (script data escape start state)
abbrev pub escape : Text
escape = codes "<!--"

abbrev pub after_tag : Element → Place
after_tag Script = Raw Script (end_of Script) escape
after_tag Style = Raw Style (end_of Style) escape
after_tag Other = Between

abbrev pub after_angle : ℕ → Place
after_angle b =
    if is_ascii_alphabetic b then Name (word_after (codes "script") b) (word_after (codes "style") b)
    else (if b == 47 then EndOpened
    else (if b == 33 then Declared 0
    else (if b == 63 then Ending
    else (if b == 60 then Opened else Between))))

-- a doctype ends at a `>` even within quotes (DOCTYPE states), and so does a bogus comment
abbrev pub in_ending : ℕ → Place
in_ending b = if b == 62 then Between else Ending

-- a letter begins the name of an end tag; `</>` is nothing, and with anything else `</` begins a bogus comment (end tag
-- open state)
abbrev pub after_slash : ℕ → Place
after_slash b = if is_ascii_alphabetic b then Name None None else in_ending b

-- only `<!--` begins a comment, and its two `-` may end it too, as in `<!-->`; with anything else `<!` begins a doctype
-- or a bogus comment (markup declaration open state)
abbrev pub after_declared : ℕ → ℕ → Place
after_declared dashes b = if b == 45 then (if dashes == 0 then Declared 1 else Comment 2) else in_ending b

abbrev pub in_comment : ℕ → ℕ → Place
in_comment dashes b =
    if b == 45 then Comment (if dashes == 0 then 1 else 2)
    else (if b == 62 && dashes == 2 then Between else Comment 0)

abbrev pub in_name : Option Text → Option Text → ℕ → Place
in_name script style b =
    if b == 62 then after_tag (element_of script style)
    else (if is_gap b then Inside (element_of script style)
    else Name (name_after script b) (name_after style b))

abbrev pub in_tag : Element → ℕ → Place
in_tag element b = if b == 62 then after_tag element else (if is_gap b then Inside element else Attribute element)

abbrev pub in_attribute : Element → ℕ → Place
in_attribute element b =
    if b == 62 then after_tag element
    else (if b == 61 then Equals element
    else (if b == 47 then Inside element else Attribute element))

abbrev pub after_equals : Element → ℕ → Place
after_equals element b =
    if b == 62 then after_tag element
    else (if is_blank b then Equals element
    else (if is_quote b then Quoted b element else Bare element))

abbrev pub in_bare : Element → ℕ → Place
in_bare element b = if b == 62 then after_tag element else (if is_blank b then Inside element else Bare element)

abbrev pub in_quotes : ℕ → Element → ℕ → Place
in_quotes quote element b = if b == quote then Inside element else Quoted quote element

-- what is left of a word after a byte: it begins anew at each `<`
abbrev pub left_after : Text → Text → ℕ → Text
left_after word left b = unwrap_or (word_after left b) (unwrap_or (word_after word b) word)

abbrev pub raw_after : Element → Text → Text → Place
raw_after Script left [] = Nowhere
raw_after element left escape_left = Raw element left escape_left

abbrev pub in_raw : Element → Text → Text → ℕ → Place
in_raw element left escape_left b =
    if length left == 0 && b == 62 then Between
    else (if length left == 0 && is_gap b then Inside Other
    else raw_after element (left_after (end_of element) left b) (left_after escape escape_left b))

-- the place after one more byte
abbrev pub next_place : Place → ℕ → Place
next_place Between b = if b == 60 then Opened else Between
next_place Opened b = after_angle b
next_place EndOpened b = after_slash b
next_place (Declared dashes) b = after_declared dashes b
next_place Ending b = in_ending b
next_place (Comment dashes) b = in_comment dashes b
next_place (Name script style) b = in_name script style b
next_place (Inside element) b = in_tag element b
next_place (Attribute element) b = in_attribute element b
next_place (Equals element) b = after_equals element b
next_place (Bare element) b = in_bare element b
next_place (Quoted quote element) b = in_quotes quote element b
next_place (Raw element left escape_left) b = in_raw element left escape_left b
next_place Nowhere b = Nowhere

-- the place after a text
abbrev pub place_after : Place → Text → Place
place_after place [] = place
place_after place (b ∷ rest) = place_after (next_place place b) rest

-- where escaping makes a text safe: between tags, and within quotes
abbrev pub takes_values : Place → Bool
takes_values Between = true
takes_values (Quoted quote element) = is_quote quote
takes_values place = false

-- a place of the code, by its texts
abbrev pub place_now : code.Place → Place
place_now variant.Between = Between
place_now variant.Opened = Opened
place_now variant.EndOpened = EndOpened
place_now (variant.Declared dashes) = Declared dashes
place_now variant.Ending = Ending
place_now (variant.Comment dashes) = Comment dashes
place_now (variant.Name script style) = Name (option_map (λ left. left.now) script) (option_map (λ left. left.now) style)
place_now (variant.Inside element) = Inside element
place_now (variant.Attribute element) = Attribute element
place_now (variant.Equals element) = Equals element
place_now (variant.Bare element) = Bare element
place_now (variant.Quoted quote element) = Quoted quote element
place_now (variant.Raw element left escape_left) = Raw element left.now escape_left.now
place_now variant.Nowhere = Nowhere
