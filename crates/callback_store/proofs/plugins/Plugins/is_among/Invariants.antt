use Rattle.std.proofs.Common.{◌≡◌, ◌==◌, ◌&&◌, bytes_eq, drop}
use Rattle.std.specs.List.{list_any}
use Rattle.callback_store.proofs.plugins.Plugins.is_among.Given as goal

-- the list has such a plugin exactly if the rest of it has one
abbrev pub invariant-loop-plugin : goal.invariant-loop-plugin
invariant-loop-plugin g l =
    list_any (λ p. list_any (bytes_eq p.name) l.names && list_any (λ c. g.S.Stated.number c == l.id) p.callbacks) l.self.list
    ≡ list_any (λ p. list_any (bytes_eq p.name) l.names && list_any (λ c. g.S.Stated.number c == l.id) p.callbacks) (drop l.plugin-index l.self.list)
