use Rattle.std.proofs.Common.{◌++◌, [], map, ap, sym, ◌∙◌, append-nil, rules}
use Rattle.snippets.proofs.Steps.{last_part, one_part, one_more, two_more}
use Rattle.snippets.specs.declared.parts.Part.TheVariants as variant
use Rattle.snippets.specs.Templates.{part_now, parts_of}
use Rattle.snippets.proofs.parts.parts_of.Goals as goal

pub parts-preserved : goal.parts-preserved
parts-preserved c =
    let part = c.next_part.result.0 in
    let more = c.next_part.result.1.now in
    record {
      text = search rules;
      same = two_more part_now c.parts.parts.items _ _ (variant.Own c.in-Some.own) part (parts_of more) c.in_ok-push.ensures.items c.in_ok-push-2.ensures.items
          ∙ ap (λ l. map part_now c.parts.parts.items ++ l) (sym (one_part c.parts.rest.now (c.in-Some.own.now, c.in-Some.after.now) (part_now part) more
          c.in-Some.ensures.value c.next_part.ensures.value))
          ∙ c.parts.invariant.same;
    }

pub returns : goal.returns
returns c =
    sym (append-nil _) ∙ one_more part_now c.parts.parts.items _ (variant.Own c.parts.rest) [] c.in_ok-push-3.ensures.items
    ∙ ap (λ l. map part_now c.parts.parts.items ++ l) (sym (last_part c.parts.rest.now c.in_default.ensures.value)) ∙ c.parts.invariant.same
