use Rattle.std.proofs.Common.{◌≡◌, ◌++◌, take, flat_map}
use Rattle.page_trace.specs.Line.{text_tokens}
use Rattle.page_trace.proofs.values.put_texts.Given as goal

abbrev pub invariant-loop-text : goal.invariant-loop-text
invariant-loop-text l = record {
  before : l.line.before ≡ l.fn.line.before;
  tokens : l.line.tokens ≡ l.initial.line.tokens ++ flat_map text_tokens (take l.text-index l.texts);
}
