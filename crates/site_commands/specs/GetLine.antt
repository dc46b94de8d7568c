-- The tokens of a line that asks for a page.
use Rattle.std.specs.Prelude.{ℕ, List, [], ◌∷◌, codes}
use Rattle.json.specs.Token.{Token, begin_object, end_object, key, string}

-- an object of `cmd`, which is `get`, and the path
abbrev pub get_tokens : List ℕ → List Token
get_tokens path = begin_object ∷ key (codes "cmd") ∷ string (codes "get") ∷ key (codes "path") ∷ string path ∷ end_object ∷ []
