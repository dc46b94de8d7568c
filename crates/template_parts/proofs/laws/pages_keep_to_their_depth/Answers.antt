use Rattle.template_parts.proofs.Keeping.{depth-page}
use Rattle.template_parts.proofs.laws.pages_keep_to_their_depth.Goals as goal

pub returns : goal.returns
returns c = depth-page
