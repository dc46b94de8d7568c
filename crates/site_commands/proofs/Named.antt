-- A tree whose `cmd` was found.
use Rattle.std.proofs.Common.{◌≡◌, ◌∙◌, ℕ, List, Option, Some, ap, sym, codes}
use Rattle.std.specs.Prelude.{option_and_then, option_map}
use Rattle.std.specs.Borrow.{Bor}
use Rattle.serde_json.specs.Data.{Data}
use Rattle.site_values.specs.Tree.{text_at}
use Rattle.site_commands.specs.Asked.{command_of, named_command}

-- it is the command of that name
pub named : (tree : Data) (found : Option (Bor (List ℕ))) (text : Bor (List ℕ)) (name : List ℕ) → option_map (λ t. t.now) found ≡ text_at (codes "cmd") tree
    → found ≡ Some text → text.now ≡ name → named_command name tree ≡ command_of tree
unfolding command_of
named tree found text name at is same =
    ap (λ o. option_and_then (λ name. named_command name tree) o)
    (ap Some (sym same) ∙ ap (option_map (λ (t : Bor (List ℕ)). t.now)) (sym is) ∙ at)
