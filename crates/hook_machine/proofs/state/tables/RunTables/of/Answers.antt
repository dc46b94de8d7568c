use Rattle.std.proofs.Common.{[], ◌++◌, ap, sym, ◌∙◌}
use Rattle.hook_machine.specs.Loads.{none_registered, core_load, load_left}
use Rattle.hook_machine.proofs.Loading.{counts_aside}
use Rattle.hook_machine.proofs.state.tables.RunTables.of.Goals as goal

-- a load fires nothing
pub returns : goal.returns
returns c = ap (λ own. record (load_left c.args.loaded) { counts = own.counts }) c.new.ensures
    ∙ sym (counts_aside none_registered [] (core_load ++ c.args.loaded))
