use Rattle.std.proofs.Common.{◌≡◌, ◌++◌, take, flat_map}
use Rattle.page_trace.specs.Line.{answer_tokens}
use Rattle.page_trace.proofs.values.put_all_answers.Given as goal

abbrev pub invariant-loop-answer : goal.invariant-loop-answer
invariant-loop-answer l = record {
  before : l.line.before ≡ l.fn.line.before;
  tokens : l.line.tokens ≡ l.initial.line.tokens ++ flat_map answer_tokens (take l.answer-index l.answers);
}
