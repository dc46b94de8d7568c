use Rattle.std.proofs.Common.{rules, refl}
use Rattle.bundled_plugins.proofs.Tables.{too_small, row_lent}
use Rattle.bundled_plugins.proofs.replies.row_of.Goals as goal

pub returns-in-Some : goal.returns-in-Some
returns-in-Some c = λ call. row_lent c.args.rows.now 1 c.args.number c.in-Some.place call c.get.result _ c.unwrap_or.result c.requires.in_order (search rules)
    c.get.ensures.lookup c.unwrap_or.ensures refl

-- the number 0
pub returns-in-None : goal.returns-in-None
returns-in-None c = λ call. too_small c.args.rows.now 1 c.args.number call c.requires.in_order (search rules)
