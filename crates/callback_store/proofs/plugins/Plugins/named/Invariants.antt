use Rattle.std.proofs.Common.{◌≡◌, bytes_eq, drop}
use Rattle.std.specs.Prelude.{find}
use Rattle.callback_store.proofs.plugins.Plugins.named.Given as goal

-- what is found in the list is what is found in the rest of it
abbrev pub invariant-loop-plugin : goal.invariant-loop-plugin
invariant-loop-plugin g l = find (λ p. bytes_eq p.name l.name) l.self.list ≡ find (λ p. bytes_eq p.name l.name) (drop l.plugin-index l.self.list)
