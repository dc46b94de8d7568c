use Rattle.std.proofs.Common.{true, false, rules, sym, ap, ◌∙◌, add-one}
use Rattle.std.proofs.lemmas.List.{take_rest}
use Rattle.http1.proofs.FieldsLemmas.{elements_at, elements_whole}
use Rattle.http_messages.specs.EntityTag.{is_listed}
use Rattle.http_messages.proofs.Listed.{any_at, any_last}
use Rattle.http_messages.proofs.entity_tag.lists.Goals as goal

pub returns-then-is_listed : goal.returns-then-is_listed
returns-then-is_listed c =
    let rest = c.loop-comma.rest.now in
    let at = c.in-Some.comma in
    let p = is_listed c.args.tag.now in
    let split = elements_at rest at (search rules) (search rules) (search rules) in
    sym (sym c.loop-comma.invariant ∙ any_at p rest at true split (ap p (sym c.trimmed.ensures) ∙ sym c.is_listed.ensures ∙ c.if-is_listed.true))

pub loop-comma-preserved : goal.loop-comma-preserved
loop-comma-preserved c =
    let rest = c.loop-comma.rest.now in
    let at = c.in-Some.comma in
    let p = is_listed c.args.tag.now in
    let split = elements_at rest at (search rules) (search rules) (search rules) in
    let later = any_at p rest at false split (ap p (sym c.trimmed.ensures) ∙ sym c.is_listed.ensures ∙ c.if-is_listed.false) in
    simp (take_rest, add-one) (sym later ∙ c.loop-comma.invariant)

pub returns : goal.returns
returns c =
    let rest = c.loop-comma.rest.now in
    let p = is_listed c.args.tag.now in
    c.is_listed-2.ensures ∙ ap p c.trimmed-2.ensures ∙ sym (any_last p rest (elements_whole rest (search rules))) ∙ c.loop-comma.invariant
