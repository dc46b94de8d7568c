use Rattle.std.proofs.Common.{◌-◌, length}
use Rattle.site_serving.proofs.Kept.{kept-take}
use Rattle.site_serving.proofs.pages.KeptPages.make_room.Goals as goal
use Rattle.site_serving.proofs.pages.KeptPages.make_room.Goals.{in-Some, in_default}

pub loop-preserved : goal.loop-preserved
loop-preserved g c =
    let left = kept-take g.C.Commands c.loop.self-inside.commands (length c.loop.self-inside.pages.entries - 1) c.loop.self-inside.pages.entries
    c.loop.invariant.1 in
    elim c.match-pop_lru.branch [
      | in-Some w ↦ rw w.self-inside-is (c.loop.invariant.0, rw c.pop_lru.ensures.entries left)
      | in_default w ↦ rw w.self-inside-is (c.loop.invariant.0, rw c.pop_lru.ensures.entries left)
    ]
