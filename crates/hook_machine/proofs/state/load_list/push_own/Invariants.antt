use Rattle.std.proofs.Common.{◌≡◌, ◌++◌, map, take}
use Rattle.callback_store.specs.Shape.{shapes_of}
use Rattle.hook_machine.specs.Loads.{load_change, with_active}
use Rattle.hook_machine.proofs.state.load_list.push_own.Given as goal

-- the changes that were passed have been appended
abbrev pub invariant-loop-change : goal.invariant-loop-change
invariant-loop-change g l = map load_change l.list.items ≡ map load_change l.fn.list.items
    ++ with_active (shapes_of g.S.Stated.number l.plugins) l.active (take l.change-index l.plugin.load)
