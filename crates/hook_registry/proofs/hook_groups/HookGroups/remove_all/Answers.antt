use Rattle.std.proofs.Common.{◌≡◌, arith, rules, ◌∙◌, ap, Some}
use Rattle.std.specs.Prelude.{filter}
use Rattle.hook_registry.specs.Table.{is_other}
use Rattle.hook_registry.proofs.Ascending.{filter_other-none}
use Rattle.hook_registry.specs.Groups.{registrations_of}
use Rattle.hook_registry.proofs.Edits.{within, plan-remove, removed-group, removed-no_group}
use Rattle.hook_registry.proofs.hook_groups.HookGroups.remove_all.Goals as goal

pub remove-requires : goal.remove-requires
remove-requires c = let k = within c.new.result c.deref.result.now c.in-Ok.at c.in-Ok.ensures in omega (arith, k, c.deref.ensures.len)

pub invariant_of-self-in-Ok : goal.invariant_of-self-in-Ok
invariant_of-self-in-Ok c = rw c.remove.ensures.items (plan-remove c.self.inside.groups.items c.in-Ok.at c.self.invariant)

pub returns-in-None : goal.returns-in-None
returns-in-None c = rw (c.in-None.is, ← c.self.view_is) (ap registrations_of c.clear.ensures.items
    ∙ filter_other-none (registrations_of c.self.inside.groups.items))

pub returns-in-Ok : goal.returns-in-Ok
returns-in-Ok c =
    let same : Some c.new.result ≡ c.args.priority = search rules in
    rw (← c.self.view_is)
    (ap registrations_of c.remove.ensures.items
    ∙ removed-group c.new.result c.self.inside.groups.items c.in-Ok.at c.self.invariant (rw c.deref.ensures.value at c.in-Ok.ensures)
    ∙ ap (λ p. filter (is_other p) (registrations_of c.self.inside.groups.items)) same)

pub returns-in-Err : goal.returns-in-Err
returns-in-Err c =
    let same : Some c.new.result ≡ c.args.priority = search rules in
    rw (← c.self.view_is)
    (removed-no_group c.new.result c.self.inside.groups.items c.in-Err.field-0 c.self.invariant (rw c.deref.ensures.value at c.in-Err.ensures)
    ∙ ap (λ p. filter (is_other p) (registrations_of c.self.inside.groups.items)) same)
