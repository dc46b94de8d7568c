use Rattle.std.proofs.Common.{◌≡◌, ◌∙◌, List, map, filter, ap, subst}
use Rattle.std.specs.Prelude.{IfOk}
use Rattle.std.proofs.lemmas.Int.{to_z-of_z}
use Rattle.hook_registry.specs.declared.registration.Registration.{Registration}
use Rattle.hook_registry.specs.Table.{entry_of, is_at}
use Rattle.hook_registry.proofs.Hooks.{registrations-found, registrations-missing}
use Rattle.hook_registry.proofs.hook_table.HookTable.group.Goals as goal

pub returns-in-Some : goal.returns-in-Some
returns-in-Some c =
    let priority = simp (to_z-of_z, c.ranges.priority) at c.new.ensures in
    rw (← c.self.view_is, ← c.as_str.ensures.text)
    (subst (λ (rs : List Registration). IfOk c.at.result (λ entries. entries.items ≡ map entry_of (filter (is_at c.args.priority) rs)))
    (registrations-found c.as_str.result.now c.self.inside.hooks.entries c.in-Some.groups.now c.in-Some.ensures.value)
    (rw priority at c.at.ensures))

pub returns-in-None : goal.returns-in-None
returns-in-None c =
    rw (← c.self.view_is, ← c.as_str.ensures.text)
    (c.new-in-None.ensures.items ∙ ap (λ (rs : List Registration). map entry_of (filter (is_at c.args.priority) rs))
    (registrations-missing c.as_str.result.now c.self.inside.hooks.entries c.in-None.ensures.value))
