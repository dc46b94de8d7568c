-- The entity tag of a page, and the conditions that list it (RFC 9110, sections 8.8.3 and 13.1.2).
use Rattle.std.specs.Prelude.{ℕ, ◌||◌, Bool, false, List, ◌++◌, Option, None, Some, codes, decimal, bytes_eq}
use Rattle.std.specs.List.{list_any}
use Rattle.http1.specs.Fields.{elements}
use Rattle.http_messages.specs.declared.entity_tag.EntityTag.{EntityTag}

-- both numbers in decimal, in quotes
abbrev pub tag_text : EntityTag → List ℕ
tag_text tag = codes "\"" ++ (decimal tag.start ++ (codes "-" ++ (decimal tag.edits ++ codes "\"")))

-- the tag after `W/`
abbrev pub is_weak : (tag element : List ℕ) → Bool
is_weak tag element = bytes_eq element (codes "W/" ++ tag)

-- the tag, weak or not, or any tag
abbrev pub is_listed : (tag element : List ℕ) → Bool
is_listed tag element = bytes_eq element tag || (bytes_eq element (codes "*") || is_weak tag element)

-- one of the elements of the condition is the tag
abbrev pub lists : (condition tag : List ℕ) → Bool
lists condition tag = list_any (is_listed tag) (elements condition)

-- the client has what has this tag
abbrev pub is_met : Option (List ℕ) → List ℕ → Bool
is_met None tag = false
is_met (Some condition) tag = lists condition tag
