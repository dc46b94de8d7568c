use Rattle.std.proofs.Common.{◌≤◌, ap, arith, codes, length, take, map, flat_map, string_bytes}
use Rattle.std.proofs.lemmas.List.{take_all}
use Rattle.page_trace.specs.Line.{text_tokens}
use Rattle.page_trace.proofs.Walks.{listed}
use Rattle.page_trace.proofs.values.put_positional_atts.Goals as goal

-- no value is left
pub returns-clause-tokens : goal.returns-clause-tokens
returns-clause-tokens c =
    let values = c.args.values.now in
    let at = c.loop-value.value-index in
    let end : length values ≤ at = omega arith in
    listed c.end_array.result (codes "positional") (flat_map text_tokens (map string_bytes (take at values))) (flat_map text_tokens (map string_bytes values))
    c.args.line.now.tokens c.key.new.self.tokens c.begin_array.new.self.tokens c.loop-value.line.tokens c.end_array.new.self.tokens
    c.in_ok-key.ensures.ok c.in_ok-begin_array.ensures.ok c.loop-value.invariant.tokens
    (ap (λ vs. flat_map text_tokens (map string_bytes vs)) (take_all at values end)) c.end_array.ensures.ok
