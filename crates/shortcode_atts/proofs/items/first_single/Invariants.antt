use Rattle.std.proofs.Common.{◌≡◌, drop}
use Rattle.shortcode_atts.specs.Items.{single_at}
use Rattle.shortcode_atts.specs.Found.{first_of}
use Rattle.shortcode_atts.proofs.items.first_single.Given as goal

-- what is found in the forms is found in those that are left
abbrev pub invariant-loop-form : goal.invariant-loop-form
invariant-loop-form l = first_of (λ form. single_at form l.text) l.forms ≡ first_of (λ form. single_at form l.text) (drop l.form-index l.forms)
