use Rattle.template_parts.specs.Page.{CanGoOn}
use Rattle.test_engine.proofs.interleaved.come_to_their_ends.Given as goal

-- both pages can go on
abbrev pub invariant-loop-step : goal.invariant-loop-step
invariant-loop-step l = CanGoOn l.first × CanGoOn l.second
