use Rattle.std.proofs.Common.{sym, ◌∙◌}
use Rattle.callback_store.proofs.Owners.{held_by, found_passes, finds_one}
use Rattle.callback_store.proofs.plugins.Plugins.among_all.Goals as goal

pub returns-in-Some-clause-number : goal.returns-in-Some-clause-number
returns-in-Some-clause-number g c = found_passes g.S.Stated.number c.args.id c.in-Some.plugin.now.callbacks c.callback.result c.callback.ensures

pub returns-in-Some-clause-held : goal.returns-in-Some-clause-held
returns-in-Some-clause-held g c =
    finds_one g.S.Stated.number c.args.id c.args.self.now.list c.in-Some.plugin.now c.callback.result (rw c.in-Some.is at c.with_callback.ensures)
    c.callback.ensures
    ∙ sym (held_by g.S.Stated.number c.args.id c.args.self.now.list _ (rw c.in-Some.is at c.with_callback.ensures))

pub returns-in-None-clause-held : goal.returns-in-None-clause-held
returns-in-None-clause-held g c = sym (held_by g.S.Stated.number c.args.id c.args.self.now.list _ (rw c.in-None.is at c.with_callback.ensures))
