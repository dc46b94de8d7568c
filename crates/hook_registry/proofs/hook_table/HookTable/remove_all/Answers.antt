use Rattle.std.proofs.Common.{sym}
use Rattle.hook_registry.specs.Table.{is_other}
use Rattle.hook_registry.proofs.Hooks.{is_first_at, keeping-at, keeping-missing, not_found}
use Rattle.hook_registry.proofs.hook_table.HookTable.remove_all.Goals as goal

pub returns-in-Some-get_index_mut : goal.returns-in-Some-get_index_mut
returns-in-Some-get_index_mut c =
    rw (← c.self.view_is, ← c.as_str.ensures.text)
    (keeping-at (is_other c.args.priority) c.as_str.result.now c.self.inside.hooks.entries c.in-Some.at c.remove_all.new.self c.in-Some-get_index_mut.groups.now
    (is_first_at c.as_str.result.now c.self.inside.hooks.entries c.in-Some.at (sym c.in-Some.ensures.index)) (sym c.in-Some-get_index_mut.ensures.value)
    c.remove_all.ensures)

pub returns-in-None : goal.returns-in-None
returns-in-None c =
    rw (← c.self.view_is, ← c.as_str.ensures.text)
    (keeping-missing (is_other c.args.priority) c.as_str.result.now c.self.inside.hooks.entries
    (not_found c.as_str.result.now c.self.inside.hooks.entries c.in-None.ensures.index))
