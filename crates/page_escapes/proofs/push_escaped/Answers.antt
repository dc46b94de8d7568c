use Rattle.std.proofs.Common.{◌≡◌, ◌∷◌, [], arith, rules}
use Rattle.std.proofs.lemmas.Bool.Decides.{nat_tests}
use Rattle.page_escapes.specs.Escapes.{entity}
use Rattle.page_escapes.proofs.Entities.{stays}
use Rattle.page_escapes.proofs.push_escaped.Goals as goal

-- a character without an entity
pub returns-in_default : goal.returns-in_default
returns-in_default c =
    let plain : entity c.args.character ≡ c.args.character ∷ [] = grind (arith, nat_tests) in
    search (rules, stays c.args.character plain)
