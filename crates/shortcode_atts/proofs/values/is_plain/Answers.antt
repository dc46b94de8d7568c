use Rattle.std.proofs.Common.{sym, ◌∙◌, ap}
use Rattle.std.specs.List.{list_any}
use Rattle.std.proofs.lemmas.Bool.{not-true}
use Rattle.shortcode_atts.proofs.AttsLemmas.{is_blank_lead, plain-ascii, plain-leads}
use Rattle.shortcode_atts.proofs.values.is_plain.Goals as goal

pub returns-then-is_ascii : goal.returns-then-is_ascii
returns-then-is_ascii c = λ is. plain-ascii c.args.text.now c.if-is_ascii.ensures.cases

pub returns-else-is_ascii : goal.returns-else-is_ascii
returns-else-is_ascii c = λ is.
    let none = sym c.has_blank_lead.ensures ∙ not-true c.has_blank_lead.result is in
    plain-leads c.args.text.now c.utf8.text (ap (list_any is_blank_lead) (sym c.as_bytes.ensures.value) ∙ none)
