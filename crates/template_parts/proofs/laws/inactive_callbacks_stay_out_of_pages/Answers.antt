use Rattle.template_parts.proofs.Keeping.{names-page}
use Rattle.template_parts.proofs.laws.inactive_callbacks_stay_out_of_pages.Goals as goal

pub returns : goal.returns
returns c = names-page
