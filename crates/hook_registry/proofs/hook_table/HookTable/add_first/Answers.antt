use Rattle.std.proofs.Common.{◌∙◌, ap}
use Rattle.hook_registry.specs.declared.registration.Registration.{Registration}
use Rattle.hook_registry.proofs.NamedValues.{pairs}
use Rattle.hook_registry.proofs.Hooks.{add-first}
use Rattle.hook_registry.proofs.hook_table.HookTable.add_first.Goals as goal

pub returns-clause-added : goal.returns-clause-added
returns-clause-added c =
    let new : Registration = record { priority = c.args.priority; callback = c.args.new.callback; accepted = c.args.new.accepted } in
    rw (← c.self.view_is)
    (ap pairs c.in_ok-insert.ensures.entries
    ∙ add-first c.args.hook.now c.self.inside.hooks.entries c.in_ok-name.name c.add.new.self new (rw (← c.self.view_is) at c.requires)
    (c.in_ok-name.ensures.ok ∙ c.as_str.ensures.text) (rw c.new-groups.ensures at c.in_ok-add.ensures.added))
