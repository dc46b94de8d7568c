use Rattle.std.proofs.Common.{sym, ◌∙◌}
use Rattle.callback_store.proofs.Owners.{held_by_at}
use Rattle.callback_store.proofs.plugins.Plugins.is_placed_in.Goals as goal

pub returns-then-is_one_of : goal.returns-then-is_one_of
returns-then-is_one_of g c =
    λ h. held_by_at g.S.Stated.number c.args.names.now c.args.id c.args.self.now.list c.in-Some.place.plugin c.in-Some-plugin_at.plugin.now
    (sym c.in-Some-plugin_at.ensures)
    (sym (rw c.as_str.ensures at c.is_one_of.ensures) ∙ c.if-is_one_of.true) (c.has_at.ensures h)
