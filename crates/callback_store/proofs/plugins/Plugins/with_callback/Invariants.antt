use Rattle.std.proofs.Common.{◌≡◌, ◌==◌, drop}
use Rattle.std.specs.Prelude.{find}
use Rattle.std.specs.List.{list_any}
use Rattle.callback_store.proofs.plugins.Plugins.with_callback.Given as goal

-- what is found in the list is what is found in the rest of it
abbrev pub invariant-loop-plugin : goal.invariant-loop-plugin
invariant-loop-plugin g l = find (λ p. list_any (λ c. g.S.Stated.number c == l.id) p.callbacks) l.self.list
    ≡ find (λ p. list_any (λ c. g.S.Stated.number c == l.id) p.callbacks) (drop l.plugin-index l.self.list)
