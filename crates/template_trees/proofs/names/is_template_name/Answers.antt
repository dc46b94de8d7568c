use Rattle.std.proofs.Common.{rules}
use Rattle.template_trees.specs.Trees.{is_template_name}
use Rattle.template_trees.proofs.names.is_template_name.Goals as goal

pub returns-then-is_of_a_page : goal.returns-then-is_of_a_page
unfolding is_template_name
returns-then-is_of_a_page c = search rules
