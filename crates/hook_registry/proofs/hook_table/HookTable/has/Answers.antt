use Rattle.hook_registry.proofs.NamedValues.{pairs}
use Rattle.hook_registry.proofs.Hooks.{registrations-found, registrations-missing}
use Rattle.hook_registry.proofs.Looks.{has-some, has-none}
use Rattle.hook_registry.proofs.hook_table.HookTable.has.Goals as goal

pub returns-in-Some : goal.returns-in-Some
returns-in-Some c =
    rw (← c.self.view_is)
    (has-some (pairs c.self.inside.hooks.entries) c.args.hook.now c.in-Some.groups.now c.is_empty.result
    (registrations-found c.args.hook.now c.self.inside.hooks.entries c.in-Some.groups.now c.in-Some.ensures.value) c.is_empty.ensures)

pub returns-in-None : goal.returns-in-None
returns-in-None c =
    rw (← c.self.view_is)
    (has-none (pairs c.self.inside.hooks.entries) c.args.hook.now
    (registrations-missing c.args.hook.now c.self.inside.hooks.entries c.in-None.ensures.value))
