-- The names that a text opens, and which of them are tags.
use Rattle.std.specs.Prelude.{ℕ, Bool, not, List, is_some, if◌then◌else◌}
use Rattle.std.specs.Borrow.{Bor}
use Rattle.hook_registry.specs.Named.{value_of}
use Rattle.content_cache.specs.declared.cut_text.OpenedName.{OpenedName}

module _ {X : Type 0} (tags : List (List ℕ × X)) where
  abbrev pub is_tag : List ℕ → Bool
  is_tag name = is_some (value_of tags name)

  -- whether the name is a tag now if it was one when the text was cut, and isn't if it wasn't
  abbrev pub is_as_cut : OpenedName → Bool
  is_as_cut opened = if is_tag opened.name then opened.is_tag else not opened.is_tag

  abbrev pub opened_as : Bor (List ℕ) → OpenedName
  opened_as name = record { name = name.now; is_tag = is_tag name.now }
