use Rattle.std.proofs.Common.{◌≡◌, None, Ok}
use Rattle.hook_machine.specs.Runs.{last_event, fault_of, engine_of, IsIdle}
use Rattle.template_parts.specs.Left.{run_left, IsIdleIfOver, work_of_move, moves_after}
use Rattle.hook_machine.specs.Moves.{Leads}
use Rattle.template_parts.proofs.moves.next_stop.Given as goal

-- what was left leads to what is left after the move
abbrev pub invariant-moves : goal.invariant-moves
invariant-moves g l =
    let engine = engine_of g.S.Stated.says g.S.Stated.number l.fn.run in
    record {
      leads : Leads l.pace (run_left engine l.settings l.posts l.fn.run l.fn.ahead)
          (work_of_move l.moved (last_event l.run) (run_left engine l.settings l.posts l.run l.ahead));
      over : IsIdleIfOver (Ok l.moved) l.run;
      idle : l.ahead.hand ≡ None → IsIdle l.run;
      sound : fault_of l.run ≡ None;
      engine : engine_of g.S.Stated.says g.S.Stated.number l.run ≡ engine_of g.S.Stated.says g.S.Stated.number l.fn.run;
      cache : l.cache ≡ l.fn.cache;
    }

abbrev pub decreases-moves : goal.decreases-moves
decreases-moves g l = moves_after l.moved l.ahead
