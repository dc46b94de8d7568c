use Rattle.std.proofs.Common.{ap, sym, Some}
use Rattle.callback_store.proofs.Owners.{owner_is}
use Rattle.callback_store.proofs.plugins.Plugins.owner.Goals as goal

pub returns-in-Some : goal.returns-in-Some
returns-in-Some g c =
    rw (owner_is g.S.Stated.number c.args.id c.args.self.now.list _ (rw c.in-Some.is at c.with_callback.ensures)) (ap Some c.as_str.ensures)

pub returns-in-None : goal.returns-in-None
returns-in-None g c = sym (owner_is g.S.Stated.number c.args.id c.args.self.now.list _ (rw c.in-None.is at c.with_callback.ensures))
