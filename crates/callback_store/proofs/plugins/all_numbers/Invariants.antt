use Rattle.std.proofs.Common.{◌≡◌, take, map}
use Rattle.callback_store.specs.Shape.{shape_of}
use Rattle.callback_store.specs.Faults.{numbers}
use Rattle.callback_store.proofs.plugins.all_numbers.Given as goal

-- those of the plugins that were passed
abbrev pub invariant-loop-plugin : goal.invariant-loop-plugin
invariant-loop-plugin g l = l.all.items ≡ numbers (map (shape_of g.S.Stated.number) (take l.plugin-index l.list))
