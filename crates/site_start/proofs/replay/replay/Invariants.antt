use Rattle.std.proofs.Common.{◌≡◌}
use Rattle.sqlite.specs.Held.{state}
use Rattle.sqlite.specs.State.{HasCleanDisk, Survives}
use Rattle.command_log.specs.Lines.{IsOpen, lines_left}
use Rattle.site_start.proofs.Stopping.{Redone}
use Rattle.site_start.proofs.replay.replay.Given as goal

-- the lines up to the place were carried out, and the others are left
abbrev pub invariant-batches : goal.invariant-batches
invariant-batches g l =
    let store = g.S.Store in
    let seen = g.C.Commands.state in
    let under = g.C.Commands.fixed l.fn.site in
    record {
      fixed : g.C.Commands.fixed l.site ≡ g.C.Commands.fixed l.fn.site;
      survives : Survives (state store l.fn.log) (state store l.log) (λ _. ⊥);
      same : HasCleanDisk (state store l.log) → (state store l.log).committed ≡ (state store l.fn.log).committed;
      opened : HasCleanDisk (state store l.log) → IsOpen store l.fn.log → IsOpen store l.log;
      done : HasCleanDisk (state store l.log) → Redone (g.C.Commands.steps under) (g.C.Commands.replies under) g.C.Commands.keeps g.C.Commands.edits
          (seen l.fn.site) (seen l.site) (lines_left store l.fn.log l.fn.first) (lines_left store l.log l.place) l.count l.counter;
    }
