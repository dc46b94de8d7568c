use Rattle.std.proofs.Common.{refl}
use Rattle.snippets.specs.Templates.{printed}
use Rattle.snippets.proofs.InPlace.{in_place, stays_nowhere}
use Rattle.snippets.proofs.Markup.{template_marks, reply_marks, no_script}
use Rattle.snippets.proofs.laws.values_add_no_markup.Goals as goal

pub returns-clause-templates : goal.returns-clause-templates
returns-clause-templates c = template_marks

pub returns-clause-replies : goal.returns-clause-replies
returns-clause-replies c = reply_marks

pub returns-clause-places : goal.returns-clause-places
returns-clause-places c = in_place

pub returns-clause-pieces : goal.returns-clause-pieces
unfolding printed
returns-clause-pieces c = λ template content values. refl

pub returns-clause-nowhere : goal.returns-clause-nowhere
returns-clause-nowhere c = stays_nowhere

pub returns-clause-scripts : goal.returns-clause-scripts
returns-clause-scripts c = no_script
