use Rattle.std.proofs.Common.{◌∙◌, ap, sym, ◌++◌, ◌∷◌, [], string_bytes}
use Rattle.std.specs.Prelude.{map}
use Rattle.std.proofs.lemmas.List.{map-append}
use Rattle.shortcode_atts.proofs.AttsLemmas.{push_value-some, push_value-none}
use Rattle.shortcode_atts.proofs.Atts.push.Goals as goal

pub returns-in_ok-push : goal.returns-in_ok-push
returns-in_ok-push c =
    let written = c.args.value.now in
    let values = ap (map string_bytes) c.in_ok-push.ensures.items
    ∙ map-append string_bytes c.self.inside.values.items (c.in_ok-meaning.field-0 ∷ [])
    ∙ (λ j. (c.self.view_is j).positional ++ c.in_ok-meaning.ensures j ∷ []) in
    λ i. record {
      named = (c.self.view_is i).named;
      positional = (values ∙ sym (push_value-some c.args.self.now.positional written c.requires (sym c.is_empty.ensures ∙ c.if-not-is_empty.true))) i;
    }

pub returns-else-not-is_empty : goal.returns-else-not-is_empty
returns-else-not-is_empty c = λ i. record {
  named = c.args.self.now.named;
  positional = sym (push_value-none c.args.self.now.positional c.args.value.now (sym c.is_empty.ensures ∙ c.if-not-is_empty.false)) i;
}
