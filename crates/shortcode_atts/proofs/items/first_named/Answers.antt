use Rattle.std.proofs.Common.{◌∙◌, ap, option_map}
use Rattle.shortcode_atts.specs.Found.{item_now, first_of}
use Rattle.shortcode_atts.specs.Items.{after_char}
use Rattle.shortcode_atts.proofs.ItemLemmas.{valued_at, no_name, no_sign, with_sign}
use Rattle.shortcode_atts.proofs.items.first_named.Goals as goal

pub returns-in_err-name-clause-value : goal.returns-in_err-name-clause-value
returns-in_err-name-clause-value c =
    ap (option_map item_now) c.from_residual.ensures ∙ no_name c.args.forms.now c.args.text.now c.in_err-name.ensures.value

pub returns-in_err-rest-clause-value : goal.returns-in_err-rest-clause-value
returns-in_err-rest-clause-value c =
    ap (option_map item_now) c.from_residual-in_err-rest.ensures
    ∙ no_sign c.args.forms.now c.args.text.now (c.in_ok-name.name.now, c.in_ok-name.rest.now) c.in_ok-name.ensures.value
    (c.in_err-rest.ensures.value ∙ ap (after_char 61) c.skip_white.ensures.value)

pub returns-clause-value : goal.returns-clause-value
returns-clause-value c =
    c.first_valued.ensures.value
    ∙ ap (λ cs. first_of (λ form. valued_at c.in_ok-name.name.now cs form) c.args.forms.now) c.skip_white-2.ensures.value
    ∙ with_sign c.args.forms.now c.args.text.now (c.in_ok-name.name.now, c.in_ok-name.rest.now) c.in_ok-rest.rest.now c.in_ok-name.ensures.value
    (c.in_ok-rest.ensures.value ∙ ap (after_char 61) c.skip_white.ensures.value)
