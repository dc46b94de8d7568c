use Rattle.std.proofs.Common.{rules}
use Rattle.template_trees.specs.Trees.{fits}
use Rattle.template_trees.proofs.size.fits.Goals as goal

pub returns-then-count_of-le-MAX_NODES : goal.returns-then-count_of-le-MAX_NODES
unfolding fits
returns-then-count_of-le-MAX_NODES c = search rules
