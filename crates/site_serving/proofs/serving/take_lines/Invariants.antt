use Rattle.std.proofs.Common.{◌≡◌, ℕ, ◌<◌, ◌++◌, List, false, length}
use Rattle.site_serving.specs.Lines.{IsLine}
use Rattle.site_serving.specs.Stretches.{RecordsBy}
use Rattle.site_serving.proofs.serving.take_lines.Given as goal

-- of the stretch up to what is left the lines are served, and what follows them is held
abbrev pub invariant-loop-end : goal.invariant-loop-end
invariant-loop-end g l =
    record {
      stretch : List ℕ;
      whole : stretch ++ l.rest ≡ l.fn.held.items ++ l.fn.chunk;
      recorded : RecordsBy g.C.Commands g.W.Journal l.fn.commands l.fn.left stretch l.fn.writer l.writer l.commands l.left l.held.items;
      line : IsLine l.held.items;
      room : 0 < length l.held.items → 0 < l.left;
      sound : g.W.Journal.has_failed l.writer ≡ false;
      fixed : g.C.Commands.fixed l.commands ≡ g.C.Commands.fixed l.fn.commands;
      idle : l.left ≡ l.fn.left → l.writer ≡ l.fn.writer;
    }

abbrev pub decreases-loop-end : goal.decreases-loop-end
decreases-loop-end g l = length l.rest
