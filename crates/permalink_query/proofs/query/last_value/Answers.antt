use Rattle.std.proofs.Common.{◌≡◌, ◌∙◌, None, refl, ap}
use Rattle.form_urlencoded.specs.Form.{raw_pairs}
use Rattle.form_urlencoded.specs.Parse.{pairs_left}
use Rattle.permalink_query.proofs.LossyLemmas.{latest, latest-whole, latest-step}
use Rattle.permalink_query.proofs.query.last_value.Goals as goal

pub loop-pair-init : goal.loop-pair-init
loop-pair-init c =
    let all : pairs_left c.into_iter-pair-iterator.result ≡ raw_pairs c.args.form.now =
    ap pairs_left c.into_iter-pair-iterator.ensures.into_iter_gives ∙ c.parse-pair-items.ensures.value ∙ ap raw_pairs c.as_bytes.ensures.value in
    ap (latest c.args.name.now None) all ∙ latest-whole c.args.name.now (raw_pairs c.args.form.now)

pub loop-pair-preserved : goal.loop-pair-preserved
loop-pair-preserved c =
    let (n, v, yields, decodes) = c.in-Some.ensures.steps.0 in
    let (other, value) = rw c.in_ok-pair.was at decodes in
    latest-step c.args.name.now _ _ _ _ _ n v _ _ _ yields other value c.requires refl c.value_under-last.ensures c.loop-pair.invariant
