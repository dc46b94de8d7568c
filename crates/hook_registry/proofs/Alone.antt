-- A hook that has no single registration.
use Rattle.std.proofs.Common.{◌≡◌, ◌==◌, ◌++◌, ℕ, suc, ℤ, false, arith, List, [], ◌∷◌, length, refl}
use Rattle.hook_registry.specs.declared.registration.Entry.{Entry}
use Rattle.hook_registry.specs.declared.registration.Registration.{Registration}
use Rattle.hook_registry.specs.declared.group.Group.{Group}
use Rattle.hook_registry.specs.Groups.{registrations_at, registrations_of, HasEntry, AreGroups}

several : (n : ℕ) → (suc (suc n) == 1) ≡ false
several n = grind (arith)

-- two groups have two registrations or more
two : (p q : ℤ) (es fs : List Entry) (rest : List Registration) → HasEntry es → HasEntry fs
    → (length (registrations_at p es ++ (registrations_at q fs ++ rest)) == 1) ≡ false
two p q [] fs rest h k = absurd h
two p q (e ∷ es) [] rest h k = absurd k
two p q (e ∷ []) (f ∷ fs) rest h k = several (length (registrations_at q fs ++ rest))
two p q (e ∷ e' ∷ es) (f ∷ fs) rest h k = several (length (registrations_at p es ++ (registrations_at q (f ∷ fs) ++ rest)))

pub other_groups : (gs : List Group) → AreGroups gs → (length gs == 1) ≡ false → (length (registrations_of gs) == 1) ≡ false
other_groups [] h l = refl
other_groups (g ∷ []) h l = cc
other_groups (g ∷ k ∷ gs) h l = two g.priority k.priority g.entries k.entries (registrations_of gs) h.0 h.2.0
