use Rattle.std.proofs.Common.{◌∙◌, not, ap, sym}
use Rattle.std.specs.List.{list_any}
use Rattle.std.proofs.lemmas.Int.{to_z-of_z}
use Rattle.hook_registry.specs.Table.{is_of}
use Rattle.hook_registry.proofs.Hooks.{registrations-found, registrations-missing, is_first_at, keeping-at, keeping-missing, found_at, not_found}
use Rattle.hook_registry.proofs.hook_table.HookTable.remove.Goals as goal

pub returns-in-Some-get_index_mut-clause-removed : goal.returns-in-Some-get_index_mut-clause-removed
returns-in-Some-get_index_mut-clause-removed c =
    let priority = simp (to_z-of_z, c.ranges.priority) at c.new.ensures in
    rw (← c.self.view_is, ← c.as_str.ensures.text)
    (keeping-at (λ r. not (is_of c.args.priority c.args.callback r)) c.as_str.result.now c.self.inside.hooks.entries c.in-Some.at c.remove.new.self
    c.in-Some-get_index_mut.groups.now
    (is_first_at c.as_str.result.now c.self.inside.hooks.entries c.in-Some.at (sym c.in-Some.ensures.index)) (sym c.in-Some-get_index_mut.ensures.value)
    (rw priority at c.remove.ensures.removed))

pub returns-in-Some-get_index_mut-clause-there : goal.returns-in-Some-get_index_mut-clause-there
returns-in-Some-get_index_mut-clause-there c =
    let priority = simp (to_z-of_z, c.ranges.priority) at c.new.ensures in
    rw (← c.self.view_is, ← c.as_str.ensures.text)
    ((rw priority at c.remove.ensures.there)
    ∙ ap (list_any (is_of c.args.priority c.args.callback))
    (registrations-found c.as_str.result.now c.self.inside.hooks.entries c.in-Some-get_index_mut.groups.now
    (found_at c.as_str.result.now c.self.inside.hooks.entries c.in-Some.at c.in-Some-get_index_mut.groups.now c.in-Some.ensures.index
    c.in-Some-get_index_mut.ensures.value)))

pub returns-in-None-clause-removed : goal.returns-in-None-clause-removed
returns-in-None-clause-removed c =
    rw (← c.self.view_is, ← c.as_str.ensures.text)
    (keeping-missing (λ r. not (is_of c.args.priority c.args.callback r)) c.as_str.result.now c.self.inside.hooks.entries
    (not_found c.as_str.result.now c.self.inside.hooks.entries c.in-None.ensures.index))

pub returns-in-None-clause-there : goal.returns-in-None-clause-there
returns-in-None-clause-there c =
    rw (← c.self.view_is, ← c.as_str.ensures.text)
    (ap (list_any (is_of c.args.priority c.args.callback)) (registrations-missing c.as_str.result.now c.self.inside.hooks.entries
    (not_found c.as_str.result.now c.self.inside.hooks.entries c.in-None.ensures.index)))
