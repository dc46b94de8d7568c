use Rattle.template_parts.specs.Page.{CanGoOn}
use Rattle.test_engine.proofs.turns.is_stopped.Given as goal

-- the page can go on
abbrev pub invariant-loop-turn : goal.invariant-loop-turn
invariant-loop-turn l = CanGoOn l.page
