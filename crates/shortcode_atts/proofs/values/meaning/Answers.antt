use Rattle.std.proofs.Common.{sym, ◌∙◌, ◌≡◌, subst, string_bytes}
use Rattle.std.specs.Prelude.{IfOk}
use Rattle.std.specs.Str.{IsUtf8}
use Rattle.shortcode_atts.proofs.ValueLemmas.{meaning-same}
use Rattle.shortcode_atts.proofs.SpellsLemmas.{unescaped-text}
use Rattle.shortcode_atts.proofs.values.meaning.Goals as goal

pub closed_text-requires : goal.closed_text-requires
closed_text-requires c =
    subst IsUtf8 (sym (c.deref.ensures.value ∙ c.in_ok-value.ensures)) (unescaped-text c.args.written.now c.requires)

pub returns-else-has_special : goal.returns-else-has_special
returns-else-has_special c =
    subst (λ cs. IfOk c.text_of.result (λ text. string_bytes text ≡ cs))
    (meaning-same c.args.written.now (sym c.has_special.ensures ∙ c.if-has_special.false)) c.text_of.ensures
