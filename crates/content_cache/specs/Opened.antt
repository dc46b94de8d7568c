-- The names that a text opens, each with whether it was a tag when the text was cut.
use Rattle.std.specs.Prelude.{◌≡◌, ℕ, List, map, filter, IsTrue}
use Rattle.plain_data.specs.Names.{is_tag_name}
use Rattle.shortcode_scan.specs.declared.Piece.{Piece}
use Rattle.shortcode_scan.specs.Live.{is_live, is_one_of}
use Rattle.shortcode_scan.specs.Pieces.{pieces_of}
use Rattle.content_cache.specs.declared.cut_text.OpenedName.{OpenedName}

abbrev pub names_of : List OpenedName → List (List ℕ)
names_of opened = map (λ o. o.name) opened

-- those that were tags
abbrev pub tags_in : List OpenedName → List (List ℕ)
tags_in opened = names_of (filter (λ o. o.is_tag) opened)

-- of all names that a tag may have, these are the ones that the text opens
abbrev pub IsOpenedBy : List ℕ → List OpenedName → Type 0
IsOpenedBy text opened = (name : List ℕ) → IsTrue (is_tag_name name) → is_one_of (names_of opened) name ≡ is_live text name

-- the text opens these names, and the pieces are those by the tags among them
abbrev pub IsCutOf : List ℕ → List OpenedName → List Piece → Type 0
IsCutOf text opened pieces = (pieces ≡ pieces_of (tags_in opened) text) × IsOpenedBy text opened
