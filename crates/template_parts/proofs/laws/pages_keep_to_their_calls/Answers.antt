use Rattle.template_parts.proofs.Keeping.{calls-page}
use Rattle.template_parts.proofs.laws.pages_keep_to_their_calls.Goals as goal

pub returns : goal.returns
returns c = calls-page
