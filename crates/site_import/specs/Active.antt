-- The active plugins of a site file.
use Rattle.std.specs.Prelude.{ℕ, List}
use Rattle.serde_json.specs.Data.{Data}
use Rattle.serde_json.specs.Find.{as_array, as_str}
use Rattle.site_import.specs.Walks.{Read, whole, entry_of, and_read, of_form, each_from, list_of}
use Rattle.site_import.specs.declared.fault.Section.TheVariants.{Active}

-- the nth name, which may be any text
abbrev pub name_at : ℕ → Data → Read (List ℕ)
name_at n tree = of_form (entry_of Active n) (as_str tree)

-- a list of names
unfoldable pub active_of : Data → Read (List (List ℕ))
active_of tree = and_read (of_form (whole Active) (as_array tree)) (λ items. each_from name_at 0 (list_of items))
