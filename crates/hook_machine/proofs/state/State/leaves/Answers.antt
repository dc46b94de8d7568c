use Rattle.std.proofs.Common.{sym, ◌∙◌}
use Rattle.hook_machine.proofs.PassedOver.{core_leaves}
use Rattle.hook_machine.proofs.state.State.leaves.Goals as goal

pub returns-then-has_core_alone : goal.returns-then-has_core_alone
returns-then-has_core_alone c =
    let room = c.has_room.ensures c.if-not-has_room.false in
    λ plain engine args. core_leaves engine c.args.self.now c.args.hook.now c.args.value.now args (c.has_core_alone.ensures c.if-has_core_alone.true)
    (sym c.is_hook_name.ensures ∙ c.if-not-is_hook_name.false) room.0 room.1 (c.is_plain.ensures.whole plain)
