use Rattle.std.proofs.Common.{◌≡◌, drop}
use Rattle.std.specs.List.{list_any}
use Rattle.shortcode_atts.proofs.AttsLemmas.{is_blank_lead}
use Rattle.shortcode_atts.proofs.values.has_blank_lead.Given as goal

abbrev pub invariant-loop-byte : goal.invariant-loop-byte
invariant-loop-byte l = list_any is_blank_lead (drop l.byte-index l.text) ≡ list_any is_blank_lead l.text
