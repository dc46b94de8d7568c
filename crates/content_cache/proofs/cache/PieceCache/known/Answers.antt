use Rattle.std.proofs.Common.{sym}
use Rattle.std.proofs.lemmas.Result.{IfOk-weaker}
use Rattle.content_cache.proofs.Entries.{kept-promoted, kept-lookup, known-cut, cut-spans}
use Rattle.content_cache.proofs.cache.PieceCache.known.Goals as goal

pub invariant_of-self : goal.invariant_of-self
invariant_of-self c = rw c.get.follows.holds-at-none (kept-promoted _ c.self.inside.kept.entries c.self.invariant)

pub invariant_of-self-2 : goal.invariant_of-self-2
invariant_of-self-2 c = rw c.get.follows.holds-at-none (kept-promoted _ c.self.inside.kept.entries c.self.invariant)

pub returns-in-Some-clause-known : goal.returns-in-Some-clause-known
returns-in-Some-clause-known c =
    let is = kept-lookup c.args.text.now c.self.inside.kept.entries c.in-Some.kept.now c.self.invariant (sym c.in-Some.ensures.value) in
    IfOk-weaker c.known.result _ _ (λ found h. known-cut c.args.text.now c.in-Some.kept.now is found h) c.known.ensures

pub returns-in-Some-clause-spans : goal.returns-in-Some-clause-spans
returns-in-Some-clause-spans c =
    IfOk-weaker c.known.result _ _ (λ found h. cut-spans c.args.text.now c.utf8.text found h) (returns-in-Some-clause-known c)
