use Rattle.std.proofs.Common.{◌∙◌, ap, map, sym}
use Rattle.callback_store.specs.Shape.{shapes_of}
use Rattle.hook_meaning.specs.World.{fresh}
use Rattle.hook_machine.specs.Loads.{load_change, load_left, with_tables}
use Rattle.hook_machine.proofs.Loading.{loaded_carries}
use Rattle.hook_machine.proofs.run.Run.loaded.Goals as goal

-- the tables of this very load are shared
pub returns-clause-world : goal.returns-clause-world
returns-clause-world g c =
    let plugins = shapes_of g.S.Stated.number c.args.plugins.now in
    let active = c.args.active in
    let load = c.in_ok-loaded.ensures ∙ ap (map load_change) c.deref.ensures.value ∙ rw c.as_slice.ensures at c.in_ok-load.ensures in
    c.over.ensures.world ∙ c.new.ensures ∙ ap (with_tables (fresh c.args.calls c.args.options active)) (c.of-tables.ensures ∙ ap load_left load)
    ∙ sym (loaded_carries plugins (fresh c.args.calls c.args.options active))
