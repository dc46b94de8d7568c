use Rattle.std.proofs.Common.{◌≡◌, drop}
use Rattle.shortcode_atts.proofs.ItemLemmas.{valued_at}
use Rattle.shortcode_atts.specs.Found.{first_of}
use Rattle.shortcode_atts.proofs.items.first_valued.Given as goal

-- what is found in the forms is found in those that are left
abbrev pub invariant-loop-form : goal.invariant-loop-form
invariant-loop-form l = first_of (λ form. valued_at l.name l.text form) l.forms ≡ first_of (λ form. valued_at l.name l.text form) (drop l.form-index l.forms)
