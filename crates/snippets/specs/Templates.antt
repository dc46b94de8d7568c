-- Templates: what the text of an option prints, for values under names and a content.
use Rattle.std.specs.Prelude.{ℕ, zero, suc, Bool, true, false, not, ◌==◌, ◌&&◌, ◌||◌, if◌then◌else◌, List, [], ◌∷◌, length, codes, bytes_eq, flat_map, nat_le, is_some, unwrap_or}
use Rattle.std.specs.Prelude.{Option, Some, None, option_map}
use Rattle.std.specs.List.{before_first, after_first}
use Rattle.std.specs.Char.{to_ascii_lowercase}
use Rattle.std.specs.Map.{lookup}
use Rattle.std.specs.Option.{option_map_or}
use Rattle.plain_data.specs.Steps.{◌>>=◌, only_if}
use Rattle.plain_data.specs.Names.{is_tag_name}
use Rattle.plain_data.specs.Texts.{Text}
use Rattle.page_escapes.specs.Escapes.{html_escaped}
use Rattle.snippets.specs.Places.{Place, Between, place_after, takes_values}
use Rattle.snippets.specs.declared.parts.Part as code
use Rattle.snippets.specs.declared.parts.Part.TheVariants as variant

-- its own text, `{{name}}` or `{{name|default}}`, `{{#name}}`, `{{^name}}`, `{{/name}}`
pub data Part : Type 0 where
  Own : Text → Part
  Value : Text → Text → Part
  Opening : Text → Part
  Inverted : Text → Part
  Closing : Text → Part

-- what is before the first two of a byte in a row, and what is after them
abbrev pub cut : ℕ → Text → Option (Text × Text)
cut b [] = None
cut b (c ∷ []) = None
cut b (c ∷ d ∷ rest) = if c == b && d == b then Some ([], rest) else option_map (λ x. (c ∷ x.0, x.1)) (cut b (d ∷ rest))

abbrev pub is_bar : ℕ → Bool
is_bar b = b == 124

-- what is written so between its braces. `#` is 35, `^` 94, `/` 47, `|` 124
abbrev pub read : Text → Part
read [] = Value [] []
read (b ∷ rest) =
    if b == 35 then Opening rest
    else (if b == 94 then Inverted rest
    else (if b == 47 then Closing rest
    else Value (before_first is_bar (b ∷ rest)) (after_first is_bar (b ∷ rest))))

abbrev pub name_of : Part → Text
name_of (Own text) = []
name_of (Value name default) = name
name_of (Opening name) = name
name_of (Inverted name) = name
name_of (Closing name) = name

-- the part after a `{{`, if it has a `}}` and its name is one, and what is after that. `{` is 123, `}` 125
unfoldable pub part_at : Text → Option (Part × Text)
part_at text = do
  inside ← cut 125 text
  only_if (is_tag_name (name_of (read inside.0))) (read inside.0, inside.1)

-- what comes after a `{{`: a part, or else the braces themselves, and what is after that
abbrev pub next_part : Text → Part × Text
next_part text = unwrap_or (part_at text) (Own (codes "{{"), text)

-- with at most n of them
abbrev pub parts_within : ℕ → Text → List Part
parts_within zero text = Own text ∷ []
parts_within (suc n) text = option_map_or (λ x. Own x.0 ∷ (next_part x.1).0 ∷ parts_within n (next_part x.1).1) (cut 123 text) (Own text ∷ [])

unfoldable pub parts_of : Text → List Part
parts_of text = parts_within (length text) text

-- what is left of a scheme after a byte, as a browser reads an address: blanks and control bytes aside, in any case
abbrev pub after_byte : Text → ℕ → Option Text
after_byte [] b = Some []
after_byte (s ∷ scheme) b = if nat_le b 32 then Some (s ∷ scheme) else only_if (to_ascii_lowercase b == s) scheme

-- whether an address begins with a scheme
abbrev pub begins : Text → Text → Bool
begins [] address = true
begins (s ∷ scheme) [] = false
begins (s ∷ scheme) (b ∷ rest) = option_map_or (λ left. begins left rest) (after_byte (s ∷ scheme) b) false

-- an address that is a program or a page of its own
abbrev pub is_script : Text → Bool
is_script value = begins (codes "javascript:") value || begins (codes "vbscript:") value || begins (codes "data:") value

-- a value as it is printed: nothing if it is such an address, and else escaped
abbrev pub safe : Text → Text
safe value = if is_script value then [] else html_escaped value

-- the same at a place: nothing where escaping doesn't make a value safe
abbrev pub shown : Place → Text → Text
shown place value = if takes_values place then safe value else []

-- values, each under its name
abbrev pub Values : Type 0
Values = List (Text × Text)

abbrev pub non_empty : Text → Option Text
non_empty text = only_if (not (length text == 0)) text

-- what is given under a name: under `content` the content, unless it is empty; else a value
abbrev pub given : Values → Text → Text → Option Text
given values content name = if bytes_eq name (codes "content") then non_empty content else lookup (bytes_eq name) values

-- a piece of what is printed: text of the template, a value as it is printed, or the content
pub data Piece : Type 0 where
  Fixed : Text → Piece
  Shown : Text → Piece
  Inner : Text → Piece

abbrev pub text_in : Piece → Text
text_in (Fixed text) = text
text_in (Shown text) = text
text_in (Inner text) = text

-- what is printed for a name: the content as it is, a value as the place allows, or else the default
abbrev pub piece_under : Values → Text → Place → Text → Text → Piece
piece_under values content place name default =
    if bytes_eq name (codes "content") then option_map_or (λ text. Inner text) (non_empty content) (Fixed default)
    else option_map_or (λ value. Shown (shown place value)) (lookup (bytes_eq name) values) (Fixed default)

-- the piece of a part. From `{{#name}}` to `{{/name}}` nothing is printed if nothing is given under that name, and from
-- `{{^name}}` if something is: it is then the name that is left out
abbrev pub piece_of : Values → Text → Place → Option Text → Part → Piece
piece_of values content place None (Own text) = Fixed text
piece_of values content place None (Value name default) = piece_under values content place name default
piece_of values content place left_out part = Fixed []

abbrev pub left_out_after : Values → Text → Option Text → Part → Option Text
left_out_after values content None (Opening name) = if is_some (given values content name) then None else Some name
left_out_after values content None (Inverted name) = if is_some (given values content name) then Some name else None
left_out_after values content (Some left_out) (Closing name) = if bytes_eq name left_out then None else Some left_out
left_out_after values content left_out part = left_out

-- the place of what comes after a piece: the template's own text alone moves it
abbrev pub place_past : Place → Piece → Place
place_past place (Fixed text) = place_after place text
place_past place (Shown text) = place
place_past place (Inner text) = place

abbrev pub pieces_from : Values → Text → Place → Option Text → List Part → List Piece
pieces_from values content place left_out [] = []
pieces_from values content place left_out (part ∷ parts) =
    piece_of values content place left_out part
    ∷ pieces_from values content (place_past place (piece_of values content place left_out part)) (left_out_after values content left_out part) parts

unfoldable pub pieces_of : Text → Values → Text → List Piece
pieces_of template values content = pieces_from values content Between None (parts_of template)

-- what a template prints
unfoldable pub printed : Text → Values → Text → Text
printed template values content = flat_map text_in (pieces_of template values content)

-- a part of the code, by its texts
abbrev pub part_now : code.Part → Part
part_now (variant.Own text) = Own text.now
part_now (variant.Value name default) = Value name.now default.now
part_now (variant.Opening name) = Opening name.now
part_now (variant.Inverted name) = Inverted name.now
part_now (variant.Closing name) = Closing name.now
