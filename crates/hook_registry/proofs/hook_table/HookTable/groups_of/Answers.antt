use Rattle.std.proofs.Common.{◌≡◌, ◌∙◌, sym, subst, string_bytes, Some}
use Rattle.hook_registry.specs.Named.{value_of}
use Rattle.hook_registry.proofs.NamedValues.{pairs, lookup-pairs}
use Rattle.hook_registry.proofs.OneList.{same_name}
use Rattle.hook_registry.proofs.hook_table.HookTable.groups_of.Goals as goal

pub returns-then-eq : goal.returns-then-eq
returns-then-eq c =
    let name = string_bytes c.in-Some.name.now in
    let same : name ≡ c.args.hook.now = sym c.as_str.ensures.value ∙ same_name c.as_str.result.now c.args.hook.now (sym c.eq.ensures ∙ c.if-eq.true) in
    rw (← c.self.view_is)
    (subst (λ n. value_of (pairs c.self.inside.hooks.entries) n ≡ Some c.in-Some.groups.now) same
    (sym (lookup-pairs name c.self.inside.hooks.entries) ∙ c.in-Some.ensures.value))

pub returns-in-None : goal.returns-in-None
returns-in-None c = rw (← c.self.view_is) (sym (c.in-None.ensures.value ∙ lookup-pairs c.args.hook.now c.self.inside.hooks.entries))

pub returns-in-Some-get_full : goal.returns-in-Some-get_full
returns-in-Some-get_full c =
    rw (← c.self.view_is) (sym (c.in-Some-get_full.ensures.value ∙ lookup-pairs c.args.hook.now c.self.inside.hooks.entries))
