use Rattle.std.proofs.Common.{refl, eq-eqb, ◌∙◌, arith}
use Rattle.std.proofs.lemmas.Bool.{ne_eqb}
use Rattle.hook_machine.proofs.run.passes.call_and_apply.Goals as goal

pub returns-then-number-eq0-clause-ok : goal.returns-then-number-eq0-clause-ok
returns-then-number-eq0-clause-ok g c = rw (eq-eqb c.args.invoked.now.callback 0 (omega arith)) refl

pub returns-clause-ok : goal.returns-clause-ok
returns-clause-ok g c =
    rw (
      ne_eqb c.args.invoked.now.callback 0 (λ e. c.if-number-eq0.false (c.number.ensures ∙ c.callback-callback.ensures ∙ e)),
      c.in_ok-carry_out.ensures.ok,
      c.in_ok-reply.ensures,
      c.callback-callback.ensures,
      c.call.ensures,
    ) refl
