use Rattle.std.proofs.Common.{◌≡◌, drop}
use Rattle.std.specs.List.{list_any}
use Rattle.callback_store.specs.Shape.{shape_of}
use Rattle.callback_store.specs.Faults.{is_large}
use Rattle.callback_store.proofs.plugins.has_large.Given as goal

-- the list has such a plugin exactly if the rest of it has one
abbrev pub invariant-loop-plugin : goal.invariant-loop-plugin
invariant-loop-plugin g l = list_any (λ p. is_large (shape_of g.S.Stated.number p)) l.list
    ≡ list_any (λ p. is_large (shape_of g.S.Stated.number p)) (drop l.plugin-index l.list)
