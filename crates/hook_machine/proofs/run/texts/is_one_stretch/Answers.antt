use Rattle.std.proofs.Common.{arith}
use Rattle.std.proofs.lemmas.Bool.{eqb-true}
use Rattle.hook_meaning.proofs.Ending.{one_stretch}
use Rattle.hook_machine.proofs.run.texts.is_one_stretch.Goals as goal

pub returns-then-span-eq0 : goal.returns-then-span-eq0
returns-then-span-eq0 c =
    λ ends inv world. one_stretch inv c.args.text.now world c.args.pieces.now _ c.in-Plain.span (omega (arith, c.if-pieces-ne1.false)) c.in-Plain.is
    c.if-span-eq0.true (eqb-true _ _ ends)
