use Rattle.std.proofs.Common.{◌≡◌, ◌++◌, ◌∙◌, ap, sym, Some}
use Rattle.std.proofs.lemmas.Result.{on_ok_weaker}
use Rattle.hook_machine.specs.Loads.{registered_after, registered_after_all, core_load, tables_in}
use Rattle.hook_machine.proofs.Loading.{own_after_load}
use Rattle.hook_machine.proofs.state.tables.RunTables.carry.Goals as goal

-- the run's own tables were empty, and are now what the load leaves
pub returns-in_ok-load-in-Some : goal.returns-in_ok-load-in-Some
returns-in_ok-load-in-Some c =
    let own = c.self.inside.own in
    let load = c.in-Some.loaded in
    let had : c.self.inside.loaded ≡ Some load = sym c.take.ensures.value ∙ c.in-Some.is in
    let empty = rw had at c.self.invariant in
    let left : c.load.new.self ≡ tables_in (Some load) own =
    c.in_ok-load-in-Some.ensures ∙ ap (λ l. registered_after_all own (core_load ++ l)) c.changes.ensures ∙ own_after_load own load empty.0 empty.1 in
    on_ok_weaker c.carry-in-Some.result
    (λ is. (λ i. tables_in (c.take.ensures.after i) c.carry-in-Some.new.self) ∙ is
    ∙ ap (λ t. registered_after t c.args.change.now c.args.is_active) (left ∙ sym (ap (λ l. tables_in l own) had) ∙ c.self.view_is)) c.carry-in-Some.ensures
