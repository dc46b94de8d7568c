use Rattle.std.proofs.Common.{◌∙◌, ◌++◌, ℕ, List, ap, sym, append_assoc, codes, take, flat_map}
use Rattle.page_trace.specs.Line.{pair_tokens}
use Rattle.page_trace.proofs.Walks.{flat_map_one, listed, walked}
use Rattle.page_trace.proofs.values.put_named_atts.Goals as goal

-- no pair is left
pub returns-in-None-clause-tokens : goal.returns-in-None-clause-tokens
returns-in-None-clause-tokens c =
    let named = c.args.atts.now.named in
    let at = c.loop-at.at in
    listed c.end_array.result (codes "named") (flat_map pair_tokens (take at named)) (flat_map pair_tokens named) c.args.line.now.tokens c.key.new.self.tokens
    c.begin_array.new.self.tokens c.loop-at.line.tokens c.end_array.new.self.tokens c.in_ok-key.ensures.ok c.in_ok-begin_array.ensures.ok
    c.loop-at.invariant.tokens (ap (flat_map pair_tokens) (walked named at (sym c.in-None.ensures))) c.end_array.ensures.ok

-- one pair more
pub loop-at-preserved : goal.loop-at-preserved
loop-at-preserved c =
    let named = c.args.atts.now.named in
    let at = c.loop-at.at in
    let pair : List ℕ × List ℕ = (c.in-Some.name.now, c.in-Some.value.now) in
    let begun = c.begin_array.new.self.tokens in
    let put = c.in_ok-put_pair-in-Some.ensures in
    record {
      before = put.before ∙ c.loop-at.invariant.before;
      tokens = put.tokens ∙ ap (λ l. l ++ pair_tokens pair) c.loop-at.invariant.tokens
          ∙ append_assoc begun (flat_map pair_tokens (take at named)) (pair_tokens pair)
          ∙ ap (λ l. begun ++ l) (sym (flat_map_one pair_tokens named at pair (sym c.in-Some.ensures)));
    }
