use Rattle.std.proofs.Common.{◌≡◌, ℕ, ◌+◌, map, take}
use Rattle.std.specs.String.{string_bytes}
use Rattle.site_serving.specs.Served.{state_after}
use Rattle.site_start.specs.Started.{AreDone, AreEdits, IsNumber}
use Rattle.site_start.proofs.replay.redo_all.Given as goal

-- the lines so far were carried out
abbrev pub invariant-loop-line : goal.invariant-loop-line
invariant-loop-line g l =
    let seen = g.C.Commands.state in
    let under = g.C.Commands.fixed l.fn.site in
    let lines = map string_bytes (take l.line-index l.lines) in
    record {
      fixed : g.C.Commands.fixed l.site ≡ g.C.Commands.fixed l.fn.site;
      done : seen l.site ≡ state_after (g.C.Commands.steps under) (seen l.fn.site) lines;
      edits : AreEdits g.C.Commands.edits lines;
      kept : AreDone (g.C.Commands.steps under) g.C.Commands.keeps (seen l.fn.site) lines;
      counted : (n : ℕ) → IsNumber n l.fn.count → IsNumber (n + l.line-index) l.count;
    }
