use Rattle.std.proofs.Common.{rules}
use Rattle.template_trees.specs.Trees.{stored_template}
use Rattle.template_trees.proofs.stored.read_stored.Goals as goal

pub returns-in-Ok : goal.returns-in-Ok
unfolding stored_template
returns-in-Ok c = search rules

pub returns : goal.returns
unfolding stored_template
returns c = search rules
