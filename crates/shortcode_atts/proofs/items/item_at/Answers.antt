use Rattle.std.proofs.Common.{rules}
use Rattle.shortcode_atts.specs.Items.{item_at}
use Rattle.shortcode_atts.proofs.items.item_at.Goals as goal

pub returns-in-Some-clause-value : goal.returns-in-Some-clause-value
unfolding item_at
returns-in-Some-clause-value c = search rules

pub returns-in-None-clause-value : goal.returns-in-None-clause-value
unfolding item_at
returns-in-None-clause-value c = search rules
