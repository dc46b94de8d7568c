use Rattle.std.proofs.Common.{◌≡◌, map, take}
use Rattle.std.specs.Prelude.{flat_map}
use Rattle.callback_store.specs.Shape.{shape_of, shapes_of}
use Rattle.hook_meaning.specs.World.{own_changes}
use Rattle.hook_machine.specs.Loads.{load_change, with_active}
use Rattle.hook_machine.proofs.state.load_list.load_list.Given as goal

-- the load lists of the plugins that were passed
abbrev pub invariant-loop-plugin : goal.invariant-loop-plugin
invariant-loop-plugin g l = map load_change l.list.items ≡ with_active (shapes_of g.S.Stated.number l.plugins) l.active
    (flat_map (own_changes l.active) (map (shape_of g.S.Stated.number) (take l.plugin-index l.plugin-items)))
