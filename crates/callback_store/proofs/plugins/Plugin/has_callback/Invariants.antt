use Rattle.std.proofs.Common.{◌≡◌, ◌==◌, drop}
use Rattle.std.specs.List.{list_any}
use Rattle.callback_store.proofs.plugins.Plugin.has_callback.Given as goal

-- the number is in the list exactly if it is in the rest of it
abbrev pub invariant-loop-callback : goal.invariant-loop-callback
invariant-loop-callback g l = list_any (λ c. g.S.Stated.number c == l.id) l.self.callbacks
    ≡ list_any (λ c. g.S.Stated.number c == l.id) (drop l.callback-index l.self.callbacks)
