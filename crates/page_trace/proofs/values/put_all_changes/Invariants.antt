use Rattle.std.proofs.Common.{◌≡◌, ◌++◌, take, flat_map}
use Rattle.page_trace.specs.Line.{change_tokens}
use Rattle.page_trace.proofs.values.put_all_changes.Given as goal

abbrev pub invariant-loop-change : goal.invariant-loop-change
invariant-loop-change l = record {
  before : l.line.before ≡ l.fn.line.before;
  tokens : l.line.tokens ≡ l.initial.line.tokens ++ flat_map change_tokens (take l.change-index l.changes);
}
