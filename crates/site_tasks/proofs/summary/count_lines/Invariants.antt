use Rattle.std.proofs.Common.{◌≡◌, ◌+◌, length}
use Rattle.sqlite.specs.Held.{state}
use Rattle.sqlite.specs.State.{HasCleanDisk, Survives}
use Rattle.command_log.specs.Lines.{lines_left, lines_of}
use Rattle.site_tasks.proofs.summary.count_lines.Given as goal

-- the lines up to the place were counted, and the others are left
abbrev pub invariant-batches : goal.invariant-batches
invariant-batches g l =
    let store = g.S.Store in
    record {
      survives : Survives (state store l.fn.log) (state store l.log) (λ _. ⊥);
      same : HasCleanDisk (state store l.log) → (state store l.log).committed ≡ (state store l.fn.log).committed;
      counted : HasCleanDisk (state store l.log) → l.count + length (lines_left store l.log l.place) ≡ length (lines_of store l.fn.log);
    }
