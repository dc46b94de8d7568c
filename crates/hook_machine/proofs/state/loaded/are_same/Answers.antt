use Rattle.std.proofs.Common.{◌≡◌, ◌∙◌, ◌<◌, ap, sym, map, length, arith}
use Rattle.std.proofs.lemmas.List.{get_or-map, length-map, take_more_same}
use Rattle.hook_machine.specs.Loads.{load_change}
use Rattle.hook_machine.proofs.state.loaded.are_same.Goals as goal

pub loop-at-preserved : goal.loop-at-preserved
loop-at-preserved c =
    let kept = c.args.kept.now in
    let changes = c.args.changes.now in
    let at = c.loop-at.at in
    let x = c.index-kept-at.result in
    let y = c.index-changes-at.result in
    let within : at < length changes = omega arith in
    let long : length (map load_change changes) ≡ length changes = length-map changes load_change in
    take_more_same kept (map load_change changes) at x c.loop-at-test.true (omega (arith, within, long)) c.loop-at.invariant
    (sym c.index-kept-at.is ∙ c.is_same_load.ensures c.if-not-is_same_load.false ∙ ap load_change c.index-changes-at.is
    ∙ sym (get_or-map load_change changes at y x within))
