-- Texts under names, as a site keeps its options and its templates.
use Rattle.std.specs.Prelude.{ℕ, List, find, Option, option_map}
use Rattle.std.specs.Str.{bytes_eq}

-- the first text of that name (get_option)
abbrev pub text_named : List ℕ → List (List ℕ × List ℕ) → Option (List ℕ)
text_named name texts = option_map (λ t. t.1) (find (λ t. bytes_eq t.0 name) texts)
