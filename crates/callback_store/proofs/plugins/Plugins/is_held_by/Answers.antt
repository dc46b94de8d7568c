use Rattle.std.proofs.Common.{sym, ◌∙◌}
use Rattle.callback_store.proofs.Owners.{held_by_names}
use Rattle.callback_store.proofs.plugins.Plugins.is_held_by.Goals as goal

pub returns-else-is_placed_in : goal.returns-else-is_placed_in
returns-else-is_placed_in g c = c.is_among.ensures ∙ sym (held_by_names g.S.Stated.number c.args.names.now c.args.id c.args.self.now.list)
