use Rattle.site_laws.proofs.Histories.{copy-rows, copy-replies}
use Rattle.site_laws.proofs.history.a_copy_agrees.Goals as goal

pub returns-clause-rows : goal.returns-clause-rows
returns-clause-rows c = copy-rows

pub returns-clause-replies : goal.returns-clause-replies
returns-clause-replies c = copy-replies
