use Rattle.std.proofs.Common.{◌≡◌, ◌++◌, take, map, flat_map, string_bytes}
use Rattle.page_trace.specs.Line.{text_tokens}
use Rattle.page_trace.proofs.values.put_positional_atts.Given as goal

abbrev pub invariant-loop-value : goal.invariant-loop-value
invariant-loop-value l = record {
  before : l.line.before ≡ l.fn.line.before;
  tokens : l.line.tokens ≡ l.initial.line.tokens ++ flat_map text_tokens (map string_bytes (take l.value-index l.values));
}
