-- When plugins are refused.
use Rattle.std.specs.Prelude.{ℕ, Bool, false, not, ◌||◌, ◌==◌, List, [], ◌∷◌, length, map, flat_map, Option, None, Some, nat_lt, if◌then◌else◌, bytes_eq}
use Rattle.std.specs.List.{list_any}
use Rattle.plain_data.specs.Names.{is_tag_name}
use Rattle.callback_store.specs.Shape.{Shape}
use Rattle.callback_store.specs.declared.fault.PluginFault.{PluginFault}
use Rattle.callback_store.specs.declared.fault.PluginFault.TheVariants.{TooMany, BadName, SameName, SameCallback}

-- whether an item is repeated in the list
abbrev pub has_repeat : {A : Type 0} → (A → A → Bool) → List A → Bool
has_repeat eq [] = false
has_repeat eq (x ∷ xs) = list_any (λ y. eq y x) xs || has_repeat eq xs

abbrev pub is_large : Shape → Bool
is_large shape = nat_lt 256 (length shape.callbacks) || nat_lt 256 (length shape.load)

abbrev pub are_too_many : List Shape → Bool
are_too_many shapes = nat_lt 64 (length shapes) || list_any is_large shapes

abbrev pub has_bad_name : List Shape → Bool
has_bad_name shapes = list_any (λ s. not (is_tag_name s.name)) shapes

abbrev pub has_same_name : List Shape → Bool
has_same_name shapes = has_repeat bytes_eq (map (λ s. s.name) shapes)

-- the numbers of all callbacks, after core's
abbrev pub numbers : List Shape → List ℕ
numbers shapes = 0 ∷ flat_map (λ s. s.callbacks) shapes

abbrev pub has_same_callback : List Shape → Bool
has_same_callback shapes = has_repeat (λ m n. m == n) (numbers shapes)

-- the first fault of a list of plugins
abbrev pub fault_of : List Shape → Option PluginFault
fault_of shapes =
    if are_too_many shapes then Some TooMany
    else (if has_bad_name shapes then Some BadName
    else (if has_same_name shapes then Some SameName
    else (if has_same_callback shapes then Some SameCallback
    else None)))
