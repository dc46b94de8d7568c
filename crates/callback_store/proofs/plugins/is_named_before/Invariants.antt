use Rattle.std.proofs.Common.{◌≡◌, bytes_eq, drop}
use Rattle.std.specs.List.{list_any}
use Rattle.callback_store.proofs.plugins.is_named_before.Given as goal

-- the name is in the list exactly if it is in the rest of it
abbrev pub invariant-loop-plugin : goal.invariant-loop-plugin
invariant-loop-plugin g l = list_any (λ p. bytes_eq l.name p.name) l.list ≡ list_any (λ p. bytes_eq l.name p.name) (drop l.plugin-index l.list)
