-- The options of a site file.
use Rattle.std.specs.Prelude.{ℕ, List, Option, Some, Ok, Err, if◌then◌else◌}
use Rattle.serde_json.specs.Data.{Data}
use Rattle.serde_json.specs.Find.{as_object, as_str}
use Rattle.site_values.specs.Limits.{max_value, fits}
use Rattle.site_values.specs.Tree.{with_found}
use Rattle.site_values.specs.Named.{option_named}
use Rattle.site_import.specs.Walks.{Read, whole, entry_of, and_read, of_form, each_from, members_of}
use Rattle.site_import.specs.declared.fault.Place.{Place}
use Rattle.site_import.specs.declared.fault.Section.TheVariants.{Options}
use Rattle.site_import.specs.declared.fault.ImportFault.TheVariants.{TooLarge}

-- the name of an option, with a text
abbrev pub pair_of : List ℕ → Data → Option (List ℕ × List ℕ)
pair_of name tree = with_found (option_named name) (λ name. with_found (as_str tree) (λ value. Some (name, value)))

-- of at most 65,536 bytes
abbrev pub checked_option : Place → (List ℕ × List ℕ) → Read (List ℕ × List ℕ)
checked_option place pair = if fits max_value pair.1 then Ok pair else Err (TooLarge place)

-- the nth option
abbrev pub option_at : ℕ → (List ℕ × Data) → Read (List ℕ × List ℕ)
option_at n entry =
    and_read (of_form (entry_of Options n) (pair_of entry.0 entry.1)) (λ pair. checked_option (entry_of Options n) pair)

-- an object of options
unfoldable pub options_of : Data → Read (List (List ℕ × List ℕ))
options_of tree = and_read (of_form (whole Options) (as_object tree)) (λ members. each_from option_at 0 (members_of members))
