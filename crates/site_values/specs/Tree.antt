-- The values at the keys of a JSON tree.
use Rattle.std.specs.Prelude.{ℕ, List, Option, None, Some, option_and_then, option_map, nat_le, ◌&&◌, if◌then◌else◌}
use Rattle.serde_json.specs.Data.{Data}
use Rattle.serde_json.specs.Find.{get, as_str, as_number, as_u64}

-- what follows from what was found, and nothing if nothing was
abbrev pub with_found : {A B : Type 0} → Option A → (A → Option B) → Option B
with_found found next = option_and_then next found

-- the text at a key
abbrev pub text_at : List ℕ → Data → Option (List ℕ)
text_at key tree = option_and_then as_str (get key tree)

-- what is read of a member, or the default if there is no such member
abbrev pub read_or : {A : Type 0} → A → (Data → Option A) → Option Data → Option A
read_or default reads None = Some default
read_or default reads (Some found) = reads found

-- the text at a key, or a default if the key is missing
abbrev pub text_or : List ℕ → List ℕ → Data → Option (List ℕ)
text_or key default tree = read_or default as_str (get key tree)

-- what is read of a member, if there is such a member
abbrev pub if_there : {A : Type 0} → (Data → Option A) → Option Data → Option (Option A)
if_there reads None = Some None
if_there reads (Some found) = option_map Some (reads found)

-- the text at a key, if the key is there
abbrev pub text_given : List ℕ → Data → Option (Option (List ℕ))
text_given key tree = if_there as_str (get key tree)

-- the number, if it lies between these, both included
abbrev pub whole_in : ℕ → ℕ → ℕ → Option ℕ
whole_in low high n = if nat_le low n && nat_le n high then Some n else None

-- the whole number at a key, without fraction and exponent
abbrev pub whole_at : List ℕ → ℕ → ℕ → Data → Option ℕ
whole_at key low high tree = option_and_then (whole_in low high) (option_and_then as_u64 (option_and_then as_number (get key tree)))
