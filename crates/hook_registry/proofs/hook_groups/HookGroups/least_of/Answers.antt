use Rattle.std.proofs.Common.{◌≡◌, ◌∙◌, List, sym, subst, arith}
use Rattle.std.specs.Prelude.{◌==◌, Some}
use Rattle.hook_registry.specs.declared.group.Group.{Group}
use Rattle.hook_registry.specs.Groups.{registrations_of}
use Rattle.hook_registry.specs.Table.{least_priority}
use Rattle.hook_registry.proofs.Looks.{least-found, least-none}
use Rattle.hook_registry.proofs.hook_groups.HookGroups.least_of.Goals as goal

pub returns-then-has : goal.returns-then-has
returns-then-has c =
    rw (← c.self.view_is)
    (subst (λ (gs : List Group). Some c.group-item.result.priority ≡ least_priority (λ r. r.callback == c.args.callback) (registrations_of gs))
    c.as_slice-group-items.ensures.value
    (sym (least-found c.args.callback c.as_slice-group-items.result.now c.loop-group.group-index c.group-item.result
    (rw (← c.as_slice-group-items.ensures.value) at c.self.invariant) c.loop-group.invariant c.loop-group-test.true c.group-item.is
    (sym c.has.ensures ∙ c.if-has.true))))

pub returns : goal.returns
returns c =
    rw (← c.self.view_is, ← c.as_slice-group-items.ensures.value)
    (sym (least-none c.args.callback c.as_slice-group-items.result.now
    (λ k d l h. c.loop-group.invariant k d l (omega (arith, c.loop-group-test.false, h)))))
