-- Values in their places: between tags, and within quotes.
use Rattle.std.proofs.Common.{◌≡◌, ◌==◌, ◌||◌, ℕ, true, false, List, [], ◌∷◌, cond, codes, bytes_eq, refl, ap, sym, ◌∙◌, subst, arith, Option, Some, None, IsTrue}
use Rattle.std.proofs.Common.{if◌then◌else◌, ◌⊎◌, inl, inr}
use Rattle.std.specs.Map.{lookup}
use Rattle.std.specs.Option.{option_map_or}
use Rattle.std.proofs.lemmas.Bool.Decides.{nat_tests}
use Rattle.snippets.specs.Markup.{is_mark, marks, IsHarmless, AreInPlace}
use Rattle.snippets.specs.declared.places.Element.{Element}
use Rattle.snippets.specs.Places.{Place, Between, Opened, EndOpened, Declared, Ending, Comment, Name, Inside, Attribute, Equals, Bare, Quoted, Raw, Nowhere, is_quote, place_after, takes_values}
use Rattle.snippets.specs.Templates.{Part, Own, Value, Opening, Inverted, Closing, Piece, Fixed, Shown, Inner, Values, safe, shown, non_empty}
use Rattle.snippets.specs.Templates.{piece_under, piece_of, place_past, left_out_after, pieces_from, pieces_of, parts_of}
use Rattle.snippets.proofs.Markup.{shown_marks}

abbrev Text : Type 0
Text = List ℕ

-- of a text without marks, no byte is one
unmarked : (b : ℕ) (rest : Text) → marks (b ∷ rest) ≡ [] → (is_mark b ≡ false) × (marks rest ≡ [])
unmarked b rest none =
    elim (is_mark b) as (λ v. is_mark b ≡ v → cond v (b ∷ marks rest) (marks rest) ≡ [] → (is_mark b ≡ false) × (marks rest ≡ [])) [
      | true ↦ λ is e. cc
      | false ↦ λ is e. (is, e)
    ] refl none

no_angle : (b : ℕ) → is_mark b ≡ false → (b == 60) ≡ false
no_angle b plain = elim (b == 60) as (λ v. (v || b == 62 || b == 34 || b == 39) ≡ false → v ≡ false) [ true ↦ λ e. e | false ↦ λ e. refl ] plain

no_quote : (b quote : ℕ) → is_mark b ≡ false → IsTrue (is_quote quote) → (b == quote) ≡ false
no_quote b quote plain of = grind (arith, nat_tests, plain, of)

keeps_text : (text : Text) → marks text ≡ [] → place_after Between text ≡ Between
keeps_text [] none = refl
keeps_text (b ∷ rest) none =
    let u = unmarked b rest none in
    ap (λ v. place_after (if v then Opened else Between) rest) (no_angle b u.0) ∙ keeps_text rest u.1

keeps_quotes : (quote : ℕ) (element : Element) (text : Text) → IsTrue (is_quote quote) → marks text ≡ [] → place_after (Quoted quote element) text ≡ Quoted quote element
keeps_quotes quote element [] of none = refl
keeps_quotes quote element (b ∷ rest) of none =
    let u = unmarked b rest none in
    ap (λ v. place_after (if v then Inside element else Quoted quote element) rest) (no_quote b quote u.0 of) ∙ keeps_quotes quote element rest of u.1

-- where values are printed, a text without marks moves no place
keeps_place : (place : Place) (text : Text) → IsTrue (takes_values place) → marks text ≡ [] → place_after place text ≡ place
keeps_place Between text takes none = keeps_text text none
keeps_place Opened text takes none = cc
keeps_place EndOpened text takes none = cc
keeps_place (Declared dashes) text takes none = cc
keeps_place Ending text takes none = cc
keeps_place (Comment dashes) text takes none = cc
keeps_place (Name script style) text takes none = cc
keeps_place (Inside element) text takes none = cc
keeps_place (Attribute element) text takes none = cc
keeps_place (Equals element) text takes none = cc
keeps_place (Bare element) text takes none = cc
keeps_place (Quoted quote element) text takes none = keeps_quotes quote element text takes none
keeps_place (Raw element left escape) text takes none = cc
keeps_place Nowhere text takes none = cc

-- after a `<!--` in a script there is no place for a value
pub stays_nowhere : (text : Text) → place_after Nowhere text ≡ Nowhere
stays_nowhere [] = refl
stays_nowhere (b ∷ rest) = stays_nowhere rest

harmless_keeps : (place : Place) (text : Text) → IsHarmless place text → place_after place text ≡ place
harmless_keeps place text (none, inl is) = ap (place_after place) is
harmless_keeps place text (none, inr takes) = keeps_place place text takes none

-- a value as it is shown
shown_or : (place : Place) (value : Text) → (shown place value ≡ []) ⊎ IsTrue (takes_values place)
shown_or place value =
    elim (takes_values place) as (λ v. ((if v then safe value else []) ≡ []) ⊎ IsTrue v) [ true ↦ inr refl | false ↦ inl refl ]

shown_harmless : (place : Place) (value : Text) → IsHarmless place (shown place value)
shown_harmless place value = (shown_marks place value, shown_or place value)

abbrev IsHarmlessPiece : Place → Piece → Type 0
IsHarmlessPiece place (Fixed text) = Unit {0}
IsHarmlessPiece place (Shown text) = IsHarmless place text
IsHarmlessPiece place (Inner text) = Unit {0}

value_harmless : (place : Place) (default : Text) (o : Option Text) → IsHarmlessPiece place (option_map_or (λ value. Shown (shown place value)) o (Fixed default))
value_harmless place default None = tt
value_harmless place default (Some value) = shown_harmless place value

content_harmless : (place : Place) (default : Text) (o : Option Text) → IsHarmlessPiece place (option_map_or (λ text. Inner text) o (Fixed default))
content_harmless place default None = tt
content_harmless place default (Some text) = tt

under_harmless : (values : Values) (content : Text) (place : Place) (name default : Text) → IsHarmlessPiece place (piece_under values content place name default)
under_harmless values content place name default =
    elim (bytes_eq name (codes "content")) as (λ v.
    IsHarmlessPiece place (if v then option_map_or (λ text. Inner text) (non_empty content) (Fixed default)
    else option_map_or (λ value. Shown (shown place value)) (lookup (bytes_eq name) values) (Fixed default))) [
      | true ↦ content_harmless place default (non_empty content)
      | false ↦ value_harmless place default (lookup (bytes_eq name) values)
    ]

piece_harmless : (values : Values) (content : Text) (place : Place) (left_out : Option Text) (part : Part)
    → IsHarmlessPiece place (piece_of values content place left_out part)
piece_harmless values content place None (Own text) = tt
piece_harmless values content place None (Value name default) = under_harmless values content place name default
piece_harmless values content place None (Opening name) = tt
piece_harmless values content place None (Inverted name) = tt
piece_harmless values content place None (Closing name) = tt
piece_harmless values content place (Some left_out) part = tt

one_more : (place : Place) (piece : Piece) (pieces : List Piece) → IsHarmlessPiece place piece → AreInPlace (place_past place piece) pieces → AreInPlace place (piece ∷ pieces)
one_more place (Fixed text) pieces harmless are = are
one_more place (Shown text) pieces harmless are = (harmless, subst (λ p. AreInPlace p pieces) (sym (harmless_keeps place text harmless)) are)
one_more place (Inner text) pieces harmless are = are

from_in_place : (values : Values) (content : Text) (place : Place) (left_out : Option Text) (parts : List Part)
    → AreInPlace place (pieces_from values content place left_out parts)
from_in_place values content place left_out [] = tt
from_in_place values content place left_out (part ∷ parts) =
    one_more place (piece_of values content place left_out part) _ (piece_harmless values content place left_out part)
    (from_in_place values content (place_past place (piece_of values content place left_out part)) (left_out_after values content left_out part) parts)

pub in_place : (template content : Text) (values : Values) → AreInPlace Between (pieces_of template values content)
unfolding pieces_of
in_place template content values = from_in_place values content Between None (parts_of template)
