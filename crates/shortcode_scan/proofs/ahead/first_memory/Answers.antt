use Rattle.std.proofs.Common.{◌≡◌, ◌+◌, ◌++◌, ◌∷◌, ◌∙◌, [], false, List, ℕ, length, get_or, map, take, ap, sym, arith, rules}
use Rattle.std.specs.Prelude.{◌||◌, bytes_eq}
use Rattle.std.proofs.lemmas.List.{length_push, map_more, take_all}
use Rattle.std.proofs.lemmas.List.Folds.{list_any_more}
use Rattle.shortcode_scan.specs.Matches.{closing_tag}
use Rattle.shortcode_scan.specs.Memory.{nothing_searched}
use Rattle.shortcode_scan.proofs.MemoryLemmas.{closings_more, tag_name-some, unsearched_bracket}
use Rattle.shortcode_scan.proofs.ahead.first_memory.Goals as goal

pub loop-name-preserved : goal.loop-name-preserved
loop-name-preserved c =
    let names = c.args.names.now in
    let text = c.args.text.now in
    let i = c.loop-name.name-index in
    let name : List ℕ = c.name-item.result in
    let before = c.loop-name.invariant in
    let spelled : c.as_bytes-name.result.now ≡ name = c.as_bytes-name.ensures.value ∙ c.as_str.ensures.text in
    let tags = rw spelled at c.in_ok-push_search.ensures.tags in
    let closings = c.in_ok-push_search.ensures.closings in
    let some : bytes_eq name [] ≡ false = search (rules, tag_name-some) in
    record {
      named = list_any_more (λ n. bytes_eq n []) names i name c.loop-name-test.true ∙ ap (λ b. b || bytes_eq (get_or names i name) []) before.named
          ∙ ap (λ n. bytes_eq n []) (sym c.name-item.is) ∙ some;
      tags = tags ∙ ap (λ ts. ts ++ closing_tag name ∷ []) before.tags ∙ ap (λ n. map closing_tag (take i names) ++ closing_tag n ∷ []) c.name-item.is
          ∙ sym (map_more closing_tag names i name c.loop-name-test.true);
      count = ap length closings ∙ length_push c.loop-name.closings.items (nothing_searched text) ∙ ap (λ n. n + 1) before.count;
      closings = closings_more text names c.loop-name.closings.items c.push_search.new.closings.items name i c.loop-name-test.true c.name-item.is before.count
          closings before.closings;
    }

pub returns : goal.returns
returns c =
    let names = c.args.names.now in
    let before = c.loop-name.invariant in
    let i = c.loop-name.name-index in
    let all : take i names ≡ names = take_all i names c.loop-name-test.false in
    record {
      named = rw all at before.named;
      bracket = rw c.unsearched.ensures (unsearched_bracket c.args.text.now);
      tags = before.tags ∙ ap (map closing_tag) all;
      count = search rules;
      closings = λ k n a lt. before.closings k n a (omega (arith, c.loop-name-test.false));
    }
