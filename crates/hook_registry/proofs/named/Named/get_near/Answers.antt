use Rattle.std.proofs.Common.{◌≡◌, ◌∙◌, sym, subst, string_bytes, Some}
use Rattle.hook_registry.specs.Named.{value_of}
use Rattle.hook_registry.proofs.NamedValues.{pairs, lookup-pairs}
use Rattle.hook_registry.proofs.OneList.{same_name}
use Rattle.hook_registry.proofs.named.Named.get_near.Goals as goal

pub returns-then-eq : goal.returns-then-eq
returns-then-eq g c =
    let name = string_bytes c.in-Some.near.now in
    let same : name ≡ c.args.name.now = sym c.as_str.ensures.value ∙ same_name c.as_str.result.now c.args.name.now (sym c.eq.ensures ∙ c.if-eq.true) in
    rw (← c.self.view_is)
    (subst (λ n. Some c.in-Some.value.now ≡ value_of (pairs c.self.inside.values.entries) n) same
    (sym c.in-Some.ensures.value ∙ lookup-pairs name c.self.inside.values.entries))

pub returns-in-None : goal.returns-in-None
returns-in-None g c = rw (← c.self.view_is) (c.in-None.ensures.value ∙ lookup-pairs c.args.name.now c.self.inside.values.entries)

pub returns-in-Some-get_full : goal.returns-in-Some-get_full
returns-in-Some-get_full g c =
    rw (← c.self.view_is) (c.in-Some-get_full.ensures.value ∙ lookup-pairs c.args.name.now c.self.inside.values.entries)
