-- The line that names a program.
use Rattle.std.specs.Prelude.{ℕ, List, [], ◌∷◌, ◌++◌, map, flat_map, codes, decimal}
use Rattle.callback_store.specs.Shape.{Shape}
use Rattle.json.specs.Token.{Token, begin_array, begin_object, end_array, end_object, key, number, string}
use Rattle.json.specs.Print.{print}

abbrev pub callback_tokens : List ℕ → List Token
callback_tokens numbers = map (λ n. number (decimal n)) numbers

-- a plugin is its name, and the numbers of its callbacks
abbrev pub plugin_tokens : Shape → List Token
plugin_tokens plugin = begin_array ∷ string plugin.name ∷ begin_array ∷ [] ++ callback_tokens plugin.callbacks ++ end_array ∷ end_array ∷ []

-- a program is the version of what its lines mean, and its plugins
abbrev pub identity_line : List Shape → List ℕ
identity_line plugins =
    print (begin_object ∷ key (codes "site") ∷ number (decimal 1) ∷ key (codes "plugins") ∷ begin_array ∷ []
    ++ flat_map plugin_tokens plugins ++ end_array ∷ end_object ∷ [])
