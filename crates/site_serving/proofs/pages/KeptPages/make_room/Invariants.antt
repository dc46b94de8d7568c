use Rattle.std.proofs.Common.{◌≡◌}
use Rattle.site_serving.specs.Kept.{AllRepeat}
use Rattle.site_serving.proofs.pages.KeptPages.make_room.Given as goal

abbrev pub invariant-loop : goal.invariant-loop
invariant-loop g l = (l.self-inside.commands ≡ l.initial.self-inside.commands)
    × AllRepeat g.C.Commands l.self-inside.commands l.self-inside.pages.entries
