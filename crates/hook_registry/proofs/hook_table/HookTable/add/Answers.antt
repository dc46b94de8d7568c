use Rattle.std.proofs.lemmas.Int.{to_z-of_z}
use Rattle.hook_registry.specs.declared.registration.Registration.{Registration}
use Rattle.hook_registry.proofs.Hooks.{add-at, unwritten, missing, on_ok, on_err}
use Rattle.hook_registry.proofs.hook_table.HookTable.add.Goals as goal

pub add_first-requires : goal.add_first-requires
add_first-requires c = rw (← c.self.view_is, ← c.as_str.ensures.text) (missing c.as_str.result.now c.self.inside.hooks.entries c.in-None.ensures.index)

pub returns-in-Some-get_index_mut-clause-added : goal.returns-in-Some-get_index_mut-clause-added
returns-in-Some-get_index_mut-clause-added c =
    let new : Registration = record { priority = c.args.priority; callback = c.args.callback; accepted = c.args.accepted } in
    let priority = simp (to_z-of_z, c.ranges.priority) at c.new-priority.ensures in
    on_ok c.add.result
    (λ e. rw (← c.self.view_is, ← c.as_str.ensures.text)
    (add-at c.as_str.result.now c.self.inside.hooks.entries c.in-Some.at new c.add.new.self c.in-Some-get_index_mut.groups.now c.in-Some.ensures.index
    c.in-Some-get_index_mut.ensures.value (rw priority at e)))
    c.add.ensures.added

pub returns-in-Some-get_index_mut-clause-err : goal.returns-in-Some-get_index_mut-clause-err
returns-in-Some-get_index_mut-clause-err c =
    on_err c.add.result
    (λ e. rw (← c.self.view_is) (unwritten c.self.inside.hooks.entries c.in-Some.at c.add.new.self c.in-Some-get_index_mut.groups.now
    c.in-Some-get_index_mut.ensures.value e))
    c.add.ensures.err
