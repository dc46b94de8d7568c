use Rattle.std.proofs.Common.{◌≡◌, List, [], ◌∷◌, refl, subst}
use Rattle.std.specs.Prelude.{MatchOption, length, false, ◌==◌}
use Rattle.hook_registry.specs.declared.registration.Registration.{Registration}
use Rattle.hook_registry.proofs.Hooks.{registrations-found, registrations-missing}
use Rattle.hook_registry.proofs.hook_table.HookTable.only.Goals as goal

pub returns-in-Some : goal.returns-in-Some
returns-in-Some c =
    rw (← c.self.view_is)
    (subst (λ (rs : List Registration). MatchOption c.only.result ((length rs == 1) ≡ false) (λ only. rs ≡ only ∷ []))
    (registrations-found c.args.hook.now c.self.inside.hooks.entries c.in-Some.groups.now c.in-Some.ensures.value) c.only.ensures)

pub returns-in-None : goal.returns-in-None
returns-in-None c =
    rw (← c.self.view_is)
    (subst (λ (rs : List Registration). (length rs == 1) ≡ false)
    (registrations-missing c.args.hook.now c.self.inside.hooks.entries c.in-None.ensures.value) refl)
