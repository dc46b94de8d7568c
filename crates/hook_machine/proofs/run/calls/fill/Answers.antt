use Rattle.std.proofs.Common.{◌≡◌, ◌∷◌, [], List, length, ap, refl, arith, ◌∙◌}
use Rattle.std.specs.Prelude.{slice_set}
use Rattle.hook_changes.specs.declared.reply.Call.{Call}
use Rattle.plain_data.specs.Texts.{Text}
use Rattle.hook_meaning.specs.Meaning.{hook_call}
use Rattle.hook_machine.proofs.run.calls.fill.Goals as goal

-- a call with one argument, and another one in its place
with_value : (call : Call) (hook value : Text) (args : List Text) → record call { answers = [] } ≡ hook_call hook call.args → args ≡ value ∷ []
    → record call { args = args; answers = [] } ≡ hook_call hook (value ∷ [])
with_value call hook value args h e = rw e (ap (λ (c : Call). record c { args = value ∷ [] }) h)

only : (args : List Text) (value : Text) → length args ≡ 1 → slice_set args 0 value ≡ value ∷ []
only [] value e = absurd (omega (arith, e))
only (x ∷ []) value e = refl
only (x ∷ y ∷ more) value e = absurd (omega (arith, e))

pub returns-then-has_one_argument-clause-call : goal.returns-then-has_one_argument-clause-call
returns-then-has_one_argument-clause-call c =
    let takes = c.takes_value_alone.ensures c.if-takes_value_alone.true in
    let one = c.has_one_argument.ensures c.if-has_one_argument.true in
    rw (takes.0, takes.1, c.empty-then-has_one_argument.ensures)
    (with_value c.args.call.now c.args.hook.now c.args.value.now c.set.new.self one.0
    (rw c.replace-value.ensures.value at (c.set.ensures ∙ only c.args.call.now.args c.replace-value.result one.1)))

pub returns-in_ok-all-in-Action-clause-call : goal.returns-in_ok-all-in-Action-clause-call
returns-in_ok-all-in-Action-clause-call c =
    rw (c.in-Action.is, c.in_ok-room.ensures.call, c.new-in-Action.ensures)
    (ap (λ a. hook_call c.args.hook.now a) (c.in_ok-all-in-Action.ensures c.args.value.now))
