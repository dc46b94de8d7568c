use Rattle.std.proofs.Common.{◌++◌, ◌∙◌, ap, arith, false, length, string_bytes, drop}
use Rattle.std.specs.Str.{chars, encode_utf8_all}
use Rattle.std.proofs.lemmas.Iterator.{YieldsList-from_chars}
use Rattle.std.proofs.lemmas.Iterator.Consumers.{YieldsList-turn, YieldsList-end}
use Rattle.std.proofs.lemmas.List.{length_push}
use Rattle.shortcode_atts.proofs.ValueLemmas.{spaced_after, spaced_after-none, spaced_after-more, spaced_after-end}
use Rattle.shortcode_atts.proofs.values.spaced.Goals as goal

pub loop-c-init : goal.loop-c-init
loop-c-init c =
    ap (λ xs. xs ++ encode_utf8_all (spaced_after false (chars c.args.text.now))) c.new-out.ensures.bytes
    ∙ ap encode_utf8_all (spaced_after-none (chars c.args.text.now))

pub loop-c-preserved : goal.loop-c-preserved
loop-c-preserved c =
    let cs = chars c.args.text.now in
    let list = YieldsList-from_chars c.args.text.now c.utf8.text cc in
    let turn = YieldsList-turn list c.loop-c.yielded _ c.loop-c.yielded_by _ _ c.in-Some.c c.in-Some.is c.next.ensures.steps in
    let more = spaced_after-more (string_bytes c.loop-c.out) cs c.loop-c.after_blank (length c.loop-c.yielded) c.in-Some.c turn in
    (λ i. c.in_ok-push_spaced.ensures i
    ++ encode_utf8_all (spaced_after (c.is_blank-after_blank.ensures i) (drop (length_push c.loop-c.yielded c.in-Some.c i) cs)))
    ∙ more ∙ c.loop-c.invariant

pub returns : goal.returns
returns c =
    let cs = chars c.args.text.now in
    let end =
    YieldsList-end (YieldsList-from_chars c.args.text.now c.utf8.text cc) c.loop-c.yielded _ c.loop-c.yielded_by _ _
    c.in-None.is c.next.ensures.steps
    in
    spaced_after-end (string_bytes c.loop-c.out) cs c.loop-c.after_blank (length c.loop-c.yielded) (omega (arith, end)) ∙ c.loop-c.invariant
