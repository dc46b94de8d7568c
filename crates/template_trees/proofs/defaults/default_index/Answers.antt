use Rattle.std.proofs.Common.{rules}
use Rattle.template_trees.proofs.defaults.default_index.Goals as goal

pub returns : goal.returns
returns c = search rules
