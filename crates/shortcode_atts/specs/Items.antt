-- The items of an attribute text (Shortcode API, shortcode_parse_atts and get_shortcode_atts_regex).
-- A text is here the list of its characters.
-- Characters: `"` is 34, `'` 39, `=` 61.
use Rattle.std.specs.Prelude.{◌≡◌, ℕ, zero, suc, Bool, true, false, not, ◌&&◌, ◌||◌, ◌==◌, if◌then◌else◌, nat_lt, nat_le, List, [], ◌∷◌, length, drop}
use Rattle.std.specs.Prelude.{take_while, Option, Some, None}
use Rattle.std.specs.List.{prefix_len}
use Rattle.std.specs.Option.{option_or, option_map_or}
use Rattle.plain_data.specs.Steps.{◌>>=◌, only_if}
use Rattle.plain_data.specs.NameByte.{is_name_byte}
use Rattle.shortcode_atts.specs.declared.items.Form.{Form}
use Rattle.shortcode_atts.specs.declared.items.Form.TheVariants.{Quoted, Bare, Word}

-- white space: 9 to 13, and the space (get_shortcode_atts_regex)
abbrev pub is_white : ℕ → Bool
is_white c = nat_le 9 c && nat_le c 13 || c == 32

-- a no-break space or a zero-width space, U+00A0 and U+200B (shortcode_parse_atts)
abbrev pub is_blank : ℕ → Bool
is_blank c = c == 160 || c == 8203

-- whether a blank comes next
abbrev pub begins_blank : List ℕ → Bool
begins_blank [] = false
begins_blank (c ∷ cs) = is_blank c

-- each run of blanks as one space, put where its last blank is (shortcode_parse_atts)
abbrev pub single_spaced : List ℕ → List ℕ
single_spaced [] = []
single_spaced (c ∷ cs) = if is_blank c then (if begins_blank cs then single_spaced cs else 32 ∷ single_spaced cs) else c ∷ single_spaced cs

-- no white space (get_shortcode_atts_regex)
abbrev pub is_word_char : ℕ → Bool
is_word_char c = not (is_white c)

-- no white space and no quote (get_shortcode_atts_regex)
abbrev pub is_bare_char : ℕ → Bool
is_bare_char c = not (is_white c || c == 34 || c == 39)

-- what follows the characters at the front that pass
abbrev pub after_run : (ℕ → Bool) → List ℕ → List ℕ
after_run p cs = drop (prefix_len p cs) cs

-- what follows the white space at the front
abbrev pub skip_white : List ℕ → List ℕ
skip_white cs = after_run is_white cs

-- what follows the character q at the front
abbrev pub after_char : ℕ → List ℕ → Option (List ℕ)
after_char q [] = None
after_char q (c ∷ cs) = only_if (c == q) cs

-- whether the end or white space comes next, as after each item (get_shortcode_atts_regex)
abbrev pub is_ended : List ℕ → Bool
is_ended [] = true
is_ended (c ∷ cs) = is_white c

-- one or more characters at the front that pass, and what follows
unfoldable pub run_at : (ℕ → Bool) → List ℕ → Option (List ℕ × List ℕ)
run_at p cs = only_if (nat_lt 0 (prefix_len p cs)) (take_while p cs, after_run p cs)

-- what is between the quote q and the next q, and what follows (get_shortcode_atts_regex)
unfoldable pub quoted_at : ℕ → List ℕ → Option (List ℕ × List ℕ)
quoted_at q cs = do
  body ← after_char q cs
  rest ← after_char q (after_run (λ c. not (c == q)) body)
  Some (take_while (λ c. not (c == q)) body, rest)

-- a value of a form at the front, and what follows (get_shortcode_atts_regex)
abbrev pub spelled_at : Form → List ℕ → Option (List ℕ × List ℕ)
spelled_at (Quoted q) cs = quoted_at q cs
spelled_at Bare cs = run_at is_bare_char cs
spelled_at Word cs = run_at is_word_char cs

-- the same, with the end or white space after it
unfoldable pub value_at : Form → List ℕ → Option (List ℕ × List ℕ)
value_at form cs = do
  v ← spelled_at form cs
  only_if (is_ended v.1) v

-- An item: its name, if it has one, its value as it is written, and what follows it.
pub record Item : Type 0 where
  pub name : Option (List ℕ)
  pub value : List ℕ
  pub rest : List ℕ

-- `name = value`, with white space allowed round the `=` (get_shortcode_atts_regex)
unfoldable pub named_at : Form → List ℕ → Option Item
named_at form cs = do
  name ← run_at is_name_byte cs
  rest ← after_char 61 (skip_white name.1)
  v ← value_at form (skip_white rest)
  Some (record { name = Some name.0; value = v.0; rest = v.1 })

-- a value alone (get_shortcode_atts_regex)
unfoldable pub single_at : Form → List ℕ → Option Item
single_at form cs = do
  v ← value_at form cs
  Some (record { name = None; value = v.0; rest = v.1 })

-- the first of the six forms that fits at the front (get_shortcode_atts_regex)
unfoldable pub item_at : List ℕ → Option Item
item_at cs =
    option_or (named_at (Quoted 34) cs)
    (option_or (named_at (Quoted 39) cs)
    (option_or (named_at Bare cs)
    (option_or (single_at (Quoted 34) cs) (option_or (single_at (Quoted 39) cs) (single_at Word cs)))))

-- The items are in the text in order, with nothing but white space outside them (shortcode_parse_atts).
abbrev pub IsItems : List ℕ → List Item → Type 0
IsItems cs [] = skip_white cs ≡ []
IsItems cs (it ∷ its) = (item_at (skip_white cs) ≡ Some it) × IsItems it.rest its

-- the items of the text, of which there are at most n
unfoldable pub items_within : ℕ → List ℕ → List Item
items_within zero cs = []
items_within (suc n) cs = option_map_or (λ it. it ∷ items_within n it.rest) (item_at (skip_white cs)) []

-- the items of an attribute text
abbrev pub items_of : List ℕ → List Item
items_of cs = items_within (length cs) cs
