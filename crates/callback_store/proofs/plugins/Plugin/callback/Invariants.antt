use Rattle.std.proofs.Common.{◌≡◌, ◌==◌, drop}
use Rattle.std.specs.Prelude.{find}
use Rattle.callback_store.proofs.plugins.Plugin.callback.Given as goal

-- what is found in the list is what is found in the rest of it
abbrev pub invariant-loop-callback : goal.invariant-loop-callback
invariant-loop-callback g l = find (λ c. g.S.Stated.number c == l.id) l.self.callbacks
    ≡ find (λ c. g.S.Stated.number c == l.id) (drop l.callback-index l.self.callbacks)
