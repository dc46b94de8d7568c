-- What a line of the tokens of `get` is as a command.
use Rattle.std.proofs.Common.{◌≡◌, ◌∙◌, ℕ, List, Option, Some, None, true, ap, refl, codes}
use Rattle.std.specs.Prelude.{option_and_then, if◌then◌else◌}
use Rattle.std.specs.Str.{is_utf8}
use Rattle.json.specs.Lex.{tokens}
use Rattle.json.specs.Json as json
use Rattle.json.specs.Token.{Token}
use Rattle.serde_json.specs.Data.{Data, string, member, no_members, object}
use Rattle.serde_json.specs.Read.{of_json, max_depth, read}
use Rattle.site_commands.specs.Tree.{tree_of}
use Rattle.site_commands.specs.Asked.{get, get_of, command_of}
use Rattle.site_commands.specs.GetLine.{get_tokens}
use Rattle.site_commands.specs.Worked.{line_command}

-- the value that tokens are
read_of : List Token → Option Data
read_of ts = option_and_then of_json (option_and_then (λ p. json.if_last p.0 p.1) (json.value max_depth ts))

-- the tree of such a line
get_tree : List ℕ → Data
get_tree path = object (member (codes "cmd") (string (codes "get")) (member (codes "path") (string path) no_members))

tokens_read : (path : List ℕ) → read_of (get_tokens path) ≡ Some (get_tree path)
unfolding json.value json.members json.items read_of get_tree
tokens_read path = refl

tree_asks : (path : List ℕ) → command_of (get_tree path) ≡ Some (get path)
unfolding command_of get_of get_tree
tree_asks path = refl

-- a line of these tokens asks for the page
pub get_asks : (line path : List ℕ) → is_utf8 line ≡ true → tokens line ≡ get_tokens path → line_command line ≡ Some (get path)
unfolding tree_of read_of
get_asks line path valid are =
    ap (λ b. option_and_then command_of (if b then read line else None)) valid ∙ ap (λ ts. option_and_then command_of (read_of ts)) are
    ∙ ap (option_and_then command_of) (tokens_read path) ∙ tree_asks path
