use Rattle.std.proofs.Common.{sym}
use Rattle.site_serving.proofs.Kept.{kept-promoted, kept-shared}
use Rattle.site_serving.proofs.pages.KeptPages.known.Goals as goal

pub invariant_of-self : goal.invariant_of-self
invariant_of-self g c = rw c.get.follows.holds-at-none (kept-promoted g.C.Commands c.self.inside.commands _ c.self.inside.pages.entries c.self.invariant)

pub invariant_of-self-2 : goal.invariant_of-self-2
invariant_of-self-2 g c = rw c.get.follows.holds-at-none (kept-promoted g.C.Commands c.self.inside.commands _ c.self.inside.pages.entries c.self.invariant)

pub returns-in-Some-clause-known : goal.returns-in-Some-clause-known
returns-in-Some-clause-known g c = rw (← c.self.view_is)
    (kept-shared g.C.Commands c.self.inside.commands c.args.line.now c.self.inside.pages.entries c.in-Some.page.now c.shared.result
    c.self.invariant (sym c.in-Some.ensures.value) c.shared.ensures)
