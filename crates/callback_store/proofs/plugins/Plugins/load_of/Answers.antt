use Rattle.std.proofs.Common.{ap, sym, Some}
use Rattle.callback_store.proofs.Owners.{load_is}
use Rattle.callback_store.proofs.plugins.Plugins.load_of.Goals as goal

pub returns-in-Some : goal.returns-in-Some
returns-in-Some g c =
    rw (load_is g.S.Stated.number c.args.name.now c.args.self.now.list _ (rw c.in-Some.is at c.named.ensures)) (ap Some c.as_slice.ensures)

pub returns-in-None : goal.returns-in-None
returns-in-None g c = sym (load_is g.S.Stated.number c.args.name.now c.args.self.now.list _ (rw c.in-None.is at c.named.ensures))
