-- Values under names, in the order in which the names were first set.
use Rattle.std.specs.Prelude.{List, ℕ, bytes_eq, Option}
use Rattle.std.specs.Map.{lookup}
use Rattle.indexmap.specs.IndexMap.{insert_entry, shift_remove_entry}

module _ {X : Type 0} where
  -- the value under a name, if there is one
  abbrev pub value_of : List (List ℕ × X) → List ℕ → Option X
  value_of pairs name = lookup (bytes_eq name) pairs

  -- a name that is there keeps its place and takes the value; another one goes last
  abbrev pub set_value : List (List ℕ × X) → List ℕ → X → List (List ℕ × X)
  set_value pairs name value = insert_entry bytes_eq pairs name value

  -- the pairs without the one under a name
  abbrev pub remove_value : List (List ℕ × X) → List ℕ → List (List ℕ × X)
  remove_value pairs name = shift_remove_entry (bytes_eq name) pairs
