-- How a site file is read: up to its first fault, or all of it.
use Rattle.std.specs.Prelude.{◌≡◌, ◌≢◌, ℕ, ◌+◌, List, [], ◌∷◌, Option, None, Some, Result, Ok, Err}
use Rattle.serde_json.specs.Data.{Data, Items, no_items, item, Members, no_members, member}
use Rattle.site_import.specs.declared.fault.Section.{Section}
use Rattle.site_import.specs.declared.fault.Place.{Place}
use Rattle.site_import.specs.declared.fault.ImportFault.{ImportFault}
use Rattle.site_import.specs.declared.fault.ImportFault.TheVariants.{BadImport, OutOfMemory}

-- what was read, or the first fault
abbrev pub Read : Type 0 → Type 0
Read A = Result A ImportFault

-- the result is what is meant: what was read, or the first fault; or memory ran out
abbrev pub Reads : {A : Type 0} → Read A → Read A → Type 0
Reads meant (Ok found) = meant ≡ Ok found
Reads meant (Err fault) = fault ≢ OutOfMemory → meant ≡ Err fault

-- the place of a section itself
abbrev pub whole : Section → Place
whole section = record { section = section; entry = None }

-- the place of one of its entries, counted from 0
abbrev pub entry_of : Section → ℕ → Place
entry_of section n = record { section = section; entry = Some n }

-- what is read next, unless there was a fault
abbrev pub and_read : {A B : Type 0} → Read A → (A → Read B) → Read B
and_read (Ok found) next = next found
and_read (Err fault) next = Err fault

-- what is there has the wanted form, or is a fault
abbrev pub of_form : {A : Type 0} → Place → Option A → Read A
of_form place None = Err (BadImport place)
of_form place (Some found) = Ok found

-- each of them in order, the first one as the nth entry
abbrev pub each_from : {A B : Type 0} → (ℕ → A → Read B) → ℕ → List A → Read (List B)
each_from reads n [] = Ok []
each_from reads n (x ∷ xs) = and_read (reads n x) (λ found. and_read (each_from reads (n + 1) xs) (λ rest. Ok (found ∷ rest)))

-- a section whose key is missing has no entries
abbrev pub section_of : {A : Type 0} → (Data → Read (List A)) → Option Data → Read (List A)
section_of reads None = Ok []
section_of reads (Some tree) = reads tree

-- the items of a JSON list
abbrev pub list_of : Items → List Data
list_of no_items = []
list_of (item tree trees) = tree ∷ list_of trees

-- the names and values of a JSON object, by name in order of bytes
abbrev pub members_of : Members → List (List ℕ × Data)
members_of no_members = []
members_of (member name tree rest) = (name, tree) ∷ members_of rest
