use Rattle.std.proofs.Common.{◌∙◌, ap}
use Rattle.std.specs.Prelude.{◌==◌}
use Rattle.hook_registry.specs.Table.{least_priority}
use Rattle.hook_registry.proofs.Hooks.{registrations-found, registrations-missing}
use Rattle.hook_registry.proofs.hook_table.HookTable.priority_of.Goals as goal

pub returns-in-Some : goal.returns-in-Some
returns-in-Some c =
    rw (← c.self.view_is)
    (c.number_of.ensures ∙ c.least_of.ensures
    ∙ ap (least_priority (λ r. r.callback == c.args.callback))
    (registrations-found c.args.hook.now c.self.inside.hooks.entries c.in-Some.groups.now c.in-Some.ensures.value))

pub returns-in-None : goal.returns-in-None
returns-in-None c =
    rw (← c.self.view_is)
    (ap (least_priority (λ r. r.callback == c.args.callback))
    (registrations-missing c.args.hook.now c.self.inside.hooks.entries c.in-None.ensures.value))
