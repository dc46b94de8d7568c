use Rattle.std.proofs.Common.{◌≡◌, ℕ, ◌-◌, ◌*◌, ◌<◌, List, false, length}
use Rattle.std.specs.Io.KnownBytes.{Consumes}
use Rattle.site_serving.specs.Journaled.{IsSettled}
use Rattle.site_serving.specs.Lines.{IsLine, max_lines}
use Rattle.site_serving.specs.Stretches.{RecordsBy}
use Rattle.site_serving.proofs.serving.serve.Given as goal

-- of what was read so far the lines are served, and what follows them is held
abbrev pub invariant-chunks : goal.invariant-chunks
invariant-chunks g l =
    record {
      stretch : List ℕ;
      read : Consumes (g.R.Source.remaining l.fn.reader) (g.R.Source.remaining l.reader) stretch;
      recorded : RecordsBy g.C.Commands g.W.Journal l.fn.commands max_lines stretch l.fn.writer l.writer l.commands l.left l.held.items;
      line : IsLine l.held.items;
      room : 0 < length l.held.items → 0 < l.left;
      settled : IsSettled g.W.Journal l.fn.writer → IsSettled g.W.Journal l.writer;
      reader_sound : g.R.Source.has_failed l.reader ≡ false;
      writer_sound : g.W.Journal.has_failed l.writer ≡ false;
      fixed : g.C.Commands.fixed l.commands ≡ g.C.Commands.fixed l.fn.commands;
    }

-- how many bytes may still come
abbrev pub decreases-chunks : goal.decreases-chunks
decreases-chunks g l = l.left * 1048577 - length l.held.items
