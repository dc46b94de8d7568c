use Rattle.std.proofs.Common.{◌-◌, ◌≡◌, ◌+◌, ◌≤◌, length}
use Rattle.hook_meaning.specs.Trace.{outcome_of, turns_of}
use Rattle.template_parts.specs.Open.{open_left, status_of}
use Rattle.site_program.specs.Site.{engine_of}
use Rattle.site_program.proofs.setup.Setup.turns_watched.Given as goal

-- what is left of the page ends as it does, after the turns made so far
abbrev pub invariant-turns : goal.invariant-turns
invariant-turns g l =
    let engine = engine_of g.S.Stated.says g.S.Stated.number l.self in
    record {
      ends : outcome_of (open_left engine l.fn.page) ≡ outcome_of (open_left engine l.page);
      turns : length (turns_of (open_left engine l.fn.page)) ≡ l.made + length (turns_of (open_left engine l.page));
      within : l.made ≤ l.count;
      status : status_of l.page ≡ status_of l.fn.page;
      cache : l.cache ≡ l.fn.cache;
    }

abbrev pub decreases-turns : goal.decreases-turns
decreases-turns g l = l.count - l.made
