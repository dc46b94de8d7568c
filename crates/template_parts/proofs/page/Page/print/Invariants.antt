use Rattle.std.proofs.Common.{◌≡◌, None, length}
use Rattle.hook_meaning.specs.Trace.{outcome_of, turns_of}
use Rattle.hook_machine.specs.Runs.{engine_of}
use Rattle.template_parts.specs.Page.{run_in, refusal_of, page_left, CanGoOn, IsSamePage}
use Rattle.template_parts.proofs.page.Page.print.Given as goal

-- what is left ends as the page does
abbrev pub invariant-turns : goal.invariant-turns
invariant-turns g l =
    let engine = engine_of g.S.Stated.says g.S.Stated.number (run_in l.fn.self) in
    record {
      ends : outcome_of (page_left engine l.fn.self) ≡ outcome_of (page_left engine l.self);
      ready : CanGoOn l.self;
      sound : refusal_of l.self ≡ None;
      same : IsSamePage l.self l.fn.self;
      engine : engine_of g.S.Stated.says g.S.Stated.number (run_in l.self) ≡ engine;
      cache : l.cache ≡ l.fn.cache;
    }

-- the turns left
abbrev pub decreases-turns : goal.decreases-turns
decreases-turns g l = length (turns_of (page_left (engine_of g.S.Stated.says g.S.Stated.number (run_in l.fn.self)) l.self))
