use Rattle.hook_machine.specs.Outcomes.{engine_over}
use Rattle.hook_machine.specs.Moves.{Leads, still_left, way_of}
use Rattle.hook_machine.proofs.run.jobs.hand_on.Given as goal

-- what was left leads to what is still left
abbrev pub invariant-frames : goal.invariant-frames
invariant-frames g l =
    let engine = engine_over g.S.Stated.says g.S.Stated.number l.plugins in
    Leads l.pace (still_left engine l.fn.moved l.fn.state l.fn.stack) (still_left engine l.moved l.state l.stack)

abbrev pub decreases-frames : goal.decreases-frames
decreases-frames g l = way_of l.moved l.stack
